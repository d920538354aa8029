use Rattle.std.proofs.Common.{arith}
use Rattle.examples.proofs.Memberships.{response_most}
use Rattle.examples.proofs.querier.variables.response_time.Goals as goal

pub returns-in-Some-clause-most : goal.returns-in-Some-clause-most
returns-in-Some-clause-most g c =
    let most = response_most g.A.Address.family c.args.code c.in-Some.time.micros
    (rw c.in-Some.is at c.max_resp_time.ensures) in
    omega (arith, most, c.total_millis.ensures)
