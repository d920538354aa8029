-- The target, and the destination.
use Rattle.packet_fields.proofs.Fields.{prints_last}
use Rattle.neighbor_fields.proofs.ndisc.show_redirect.Goals as goal

pub returns : goal.returns
returns g c =
    prints_last _ _ _ c.in_ok-show_target.ensures (rw c.field-addr.ensures.value at c.field.ensures)
