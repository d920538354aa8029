-- Each by its own function.
use Rattle.message_fields.proofs.bodies.show_body.Goals as goal

pub returns-in-Icmp4 : goal.returns-in-Icmp4
returns-in-Icmp4 g c = rw c.in-Icmp4.is c.show_icmp4.ensures

pub returns-in-Igmp : goal.returns-in-Igmp
returns-in-Igmp g c = rw c.in-Igmp.is c.show_igmp.ensures

pub returns-in-Icmp6 : goal.returns-in-Icmp6
returns-in-Icmp6 g c = rw c.in-Icmp6.is c.show_icmp6.ensures

pub returns-in-Udp : goal.returns-in-Udp
returns-in-Udp g c = rw c.in-Udp.is c.show_udp.ensures

pub returns-in-Tcp : goal.returns-in-Tcp
returns-in-Tcp g c = rw c.in-Tcp.is c.show_dns.ensures
