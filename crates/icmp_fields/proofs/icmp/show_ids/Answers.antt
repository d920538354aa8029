-- The numbers, one after the other.
use Rattle.packet_fields.proofs.Fields.{prints_last}
use Rattle.icmp_fields.proofs.icmp.show_ids.Goals as goal

pub returns : goal.returns
returns g c =
    prints_last _ _ _ (rw c.u16_at.ensures at c.in_ok-field.ensures) (rw c.u16_at-2.ensures at c.field-2.ensures)
