-- The flags by the table of the specification.
use Rattle.neighbor_fields.specs.Ndisc.{router_flags}
use Rattle.neighbor_fields.proofs.ndisc.show_router_flags.Goals as goal

pub returns : goal.returns
unfolding router_flags
returns g c = c.field.ensures
