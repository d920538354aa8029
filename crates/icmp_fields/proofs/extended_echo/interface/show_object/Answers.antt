-- What the object names, and the octets behind that.
use Rattle.packet_fields.proofs.Fields.{prints_last}
use Rattle.icmp_fields.proofs.extended_echo.interface.show_object.Goals as goal

pub returns : goal.returns
returns g c =
    let behind = rw (c.split_at.ensures.back, c.told_len.ensures.value) at c.show_additional.ensures in
    prints_last _ _ _ c.in_ok-show_payload.ensures behind
