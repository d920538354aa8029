-- The number, and the time after it.
use Rattle.packet_fields.proofs.Fields.{prints_last}
use Rattle.packet_pairs.proofs.show.show_answered.Goals as goal

pub returns : goal.returns
returns g c = prints_last _ _ _ c.in_ok-field.ensures c.show_after.ensures
