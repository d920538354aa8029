-- The numbers, the state, and the octets behind it.
use Rattle.packet_fields.proofs.Fields.{◌and◌, prints_last}
use Rattle.icmp_fields.proofs.extended_echo.show_reply.Goals as goal

pub returns : goal.returns
returns g c =
    let ident = rw c.u16_at.ensures at c.in_ok-field.ensures in
    let seq_no = rw c.u8_at.ensures at c.in_ok-field-2.ensures in
    let state = rw c.u8_at-2.ensures at c.in_ok-show_state.ensures in
    let behind = rw c.split_at.ensures.back at c.show_additional.ensures in
    prints_last _ _ _ (ident and seq_no and state) behind
