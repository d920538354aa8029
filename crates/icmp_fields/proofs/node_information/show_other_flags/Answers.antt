-- The flags by the table of the specification.
use Rattle.icmp_fields.specs.NodeInformation.{other_flags}
use Rattle.icmp_fields.proofs.node_information.show_other_flags.Goals as goal

pub returns : goal.returns
unfolding other_flags
returns g c = c.field.ensures
