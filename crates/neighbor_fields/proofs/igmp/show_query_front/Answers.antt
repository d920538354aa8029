-- The fields, one after another.
use Rattle.packet_fields.proofs.Fields.{◌and◌, prints_last}
use Rattle.neighbor_fields.proofs.igmp.show_query_front.Goals as goal

pub returns : goal.returns
returns g c =
    let time = rw c.millis.ensures at c.in_ok-field-3.ensures in
    prints_last _ _ _ (c.in_ok-field.ensures and c.in_ok-field-2.ensures and time) c.show_group.ensures
