use Rattle.dhcp_options.proofs.Words.{arith}
use Rattle.dhcp_options.proofs.JoinedParts.{left-fits}
use Rattle.dhcp_options.proofs.joined.parts_in.Goals as goal

pub returns-clause-fits : goal.returns-clause-fits
returns-clause-fits c = omega (arith, left-fits c.args.kind c.args.areas, c.args.areas.short)
