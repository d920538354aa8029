-- The octets, and why.
use Rattle.packet_fields.proofs.Fields.{prints_last}
use Rattle.neighbor_fields.proofs.messages.show_cut.Goals as goal

pub returns : goal.returns
returns g c =
    let why = rw c.phrase.ensures at c.field-2.ensures in
    prints_last _ _ _ c.in_ok-field.ensures why
