-- The fields, one after another.
use Rattle.packet_fields.proofs.Fields.{◌and◌, prints_last}
use Rattle.neighbor_fields.proofs.mld.show_query_front.Goals as goal

pub returns : goal.returns
returns g c =
    let code = rw c.u16_at-code.ensures at c.in_ok-field-2.ensures in
    let delay =
    rw (c.millis.ensures, c.long_code_number.ensures, c.u16_at-code.ensures) at c.in_ok-field-3.ensures in
    prints_last _ _ _ (c.in_ok-field.ensures and code and delay) c.show_group.ensures
