-- The type, and the code.
use Rattle.packet_fields.proofs.Fields.{prints_last}
use Rattle.neighbor_fields.proofs.messages.show_head.Goals as goal

pub returns : goal.returns
returns g c =
    prints_last _ _ _ (rw c.type_name.ensures at c.in_ok-named.ensures) c.named-2.ensures
