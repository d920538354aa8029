-- The number, the key and the tries.
use Rattle.packet_fields.proofs.Fields.{◌and◌, prints_last}
use Rattle.packet_pairs.proofs.unanswered.show_asked.Goals as goal

pub returns : goal.returns
returns g c =
    prints_last _ _ _ (c.in_ok-field.ensures and c.in_ok-show_key.ensures)
    c.field-2.ensures
