-- The fields, and what of them is told.
use Rattle.message_fields.proofs.udp.show_dhcp_packet.Goals as goal

pub returns : goal.returns
returns g c =
    let (items, are, printed) = c.in_ok-why.ensures in
    (items, (c.in_ok-why.why, are, c.of_dhcp.ensures), printed)
