-- The fields, one after another.
use Rattle.packet_fields.proofs.Fields.{◌and◌, prints_last}
use Rattle.icmp_fields.proofs.node_information.show_fields.Goals as goal

pub returns : goal.returns
returns g c =
    let qtype = rw (c.qtype_name.ensures, c.u16_at-qtype.ensures) at c.in_ok-named.ensures in
    let flags = rw (c.u16_at-qtype.ensures, c.u16_at.ensures) at c.in_ok-show_flags.ensures in
    let nonce = rw c.field-nonce.ensures.value at c.field.ensures in
    prints_last _ _ _ (qtype and flags) nonce
