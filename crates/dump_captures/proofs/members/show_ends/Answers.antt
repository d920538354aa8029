-- The fields, one after the other.
use Rattle.packet_fields.proofs.Fields.{prints_last}
use Rattle.dump_captures.proofs.members.show_ends.Goals as goal

pub returns : goal.returns
returns g c =
    prints_last _ _ _ c.in_ok-field.ensures c.field-2.ensures
