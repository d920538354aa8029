-- The service, who asks whom, and the question.
use Rattle.packet_fields.proofs.Fields.{◌and◌, prints_last}
use Rattle.packet_pairs.proofs.unanswered.show_name.Goals as goal

pub returns : goal.returns
returns g c =
    prints_last _ _ _ (c.in_ok-show_service.ensures and c.in_ok-show_asker.ensures
    and c.in_ok-show_unless_many.ensures and c.in_ok-field.ensures)
    c.field-2.ensures
