-- A datagram of UDP and a segment of TCP have addresses of their own.
use Rattle.packet_pairs.proofs.exchange.exchange_of.Goals as goal

pub returns-in-Udp : goal.returns-in-Udp
returns-in-Udp c = rw c.in-Udp.is c.udp_in.ensures

pub returns-in-Tcp : goal.returns-in-Tcp
returns-in-Tcp c = rw c.in-Tcp.is c.tcp_in.ensures
