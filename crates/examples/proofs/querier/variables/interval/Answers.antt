use Rattle.std.proofs.Common.{arith}
use Rattle.examples.proofs.Memberships.{interval-most}
use Rattle.examples.proofs.querier.variables.interval.Goals as goal

pub returns-clause-most : goal.returns-clause-most
returns-clause-most c = omega (arith, interval-most c.args.code, c.secs.ensures, c.interval.ensures)
