-- Each by its own function.
use Rattle.std.proofs.Common.{refl}
use Rattle.packet_fields.proofs.Printing.{put}
use Rattle.message_brief.proofs.messages.put_body.Goals as goal

pub returns-in_ok-put_icmp4-in-Icmp4 : goal.returns-in_ok-put_icmp4-in-Icmp4
returns-in_ok-put_icmp4-in-Icmp4 g c =
    rw c.in-Icmp4.is (_, (refl, c.is_whole4.ensures), put g.W.Write.contents _ _ _ c.in_ok-put_icmp4-in-Icmp4.ensures)

pub returns-in_ok-put_igmp-in-Igmp : goal.returns-in_ok-put_igmp-in-Igmp
returns-in_ok-put_igmp-in-Igmp g c =
    rw c.in-Igmp.is
    (_, (refl, c.is_whole4-in-Igmp.ensures), put g.W.Write.contents _ _ _ c.in_ok-put_igmp-in-Igmp.ensures)

pub returns-in_ok-put_icmp6-in-Icmp6 : goal.returns-in_ok-put_icmp6-in-Icmp6
returns-in_ok-put_icmp6-in-Icmp6 g c =
    rw c.in-Icmp6.is (_, (refl, c.is_whole6.ensures), put g.W.Write.contents _ _ _ c.in_ok-put_icmp6-in-Icmp6.ensures)

pub returns-in-Udp : goal.returns-in-Udp
returns-in-Udp g c = rw c.in-Udp.is c.put_udp.ensures

pub returns-in-Tcp : goal.returns-in-Tcp
returns-in-Tcp g c = rw c.in-Tcp.is c.put_service.ensures
