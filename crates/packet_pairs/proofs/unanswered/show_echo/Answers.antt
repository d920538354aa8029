-- The kind, who asks whom, and the two numbers.
use Rattle.packet_fields.proofs.Fields.{◌and◌, prints_last}
use Rattle.packet_pairs.proofs.unanswered.show_echo.Goals as goal

pub returns : goal.returns
returns g c =
    prints_last _ _ _ (c.in_ok-field.ensures and c.in_ok-show_asker.ensures
    and c.in_ok-show_answerer.ensures and c.in_ok-field-2.ensures)
    c.field-3.ensures
