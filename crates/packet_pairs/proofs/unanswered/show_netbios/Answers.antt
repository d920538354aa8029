-- The kind, the asker and the number.
use Rattle.packet_fields.proofs.Fields.{◌and◌, prints_last}
use Rattle.packet_pairs.proofs.unanswered.show_netbios.Goals as goal

pub returns : goal.returns
returns g c =
    prints_last _ _ _ (c.in_ok-field.ensures and c.in_ok-show_asker.ensures)
    c.field-2.ensures
