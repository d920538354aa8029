-- The family, and the address.
use Rattle.packet_fields.proofs.Fields.{prints_last}
use Rattle.icmp_fields.proofs.extended_echo.interface.show_address.Goals as goal

pub returns : goal.returns
returns g c =
    let family = rw (c.family_name.ensures, c.u16_at-family.ensures) at c.in_ok-named.ensures in
    let address = rw (c.range-address.ensures.value, c.address_end.ensures, c.u16_at-family.ensures)
    at c.show_address_of.ensures in
    prints_last _ _ _ family address
