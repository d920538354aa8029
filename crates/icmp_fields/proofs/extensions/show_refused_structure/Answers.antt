-- Why, and the octets.
use Rattle.packet_fields.proofs.Fields.{prints_last}
use Rattle.icmp_fields.proofs.extensions.show_refused_structure.Goals as goal

pub returns : goal.returns
returns g c =
    prints_last _ _ _ c.in_ok-show_refused.ensures c.field.ensures
