-- The fields, one after another.
use Rattle.packet_fields.proofs.Fields.{◌and◌, prints_last}
use Rattle.icmp_fields.proofs.extended_echo.show_request_fields.Goals as goal

pub returns : goal.returns
returns g c =
    let ident = rw c.u16_at.ensures at c.in_ok-field.ensures in
    let seq_no = rw c.u8_at.ensures at c.in_ok-field-2.ensures in
    let local = rw c.u8_at-2.ensures at c.field-3.ensures in
    prints_last _ _ _ (ident and seq_no) local
