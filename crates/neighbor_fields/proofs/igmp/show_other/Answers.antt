-- The code, and the octets behind the checksum.
use Rattle.packet_fields.proofs.Fields.{prints_last}
use Rattle.neighbor_fields.proofs.igmp.show_other.Goals as goal

pub returns : goal.returns
returns g c =
    prints_last _ _ _ c.in_ok-field.ensures (rw c.split_at.ensures.back at c.field-2.ensures)
