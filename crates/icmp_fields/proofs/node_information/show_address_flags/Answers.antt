-- The flags by the table of the specification.
use Rattle.icmp_fields.specs.NodeInformation.{address_flags}
use Rattle.icmp_fields.proofs.node_information.show_address_flags.Goals as goal

pub returns : goal.returns
unfolding address_flags
returns g c = c.field.ensures
