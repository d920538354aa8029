-- The head by the first octets, and what follows the checksum.
use Rattle.packet_fields.proofs.Fields.{prints_last}
use Rattle.icmp_fields.proofs.icmp6.show_typed.Goals as goal

pub returns : goal.returns
returns g c =
    let head = rw (c.u8_at.ensures, c.u8_at-2.ensures) at c.in_ok-show_head.ensures in
    prints_last _ _ _ head c.show_behind.ensures
