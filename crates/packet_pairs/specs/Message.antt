-- The question or the answer that a message is.
use Rattle.std.specs.Prelude.{◌≡◌, ◌⊎◌, List, None, Option, false, true, ℕ}
use Rattle.frame_wire.specs.Tcp.{IsSegment, Refuses as RefusesSegment, SegmentValue}
use Rattle.frame_wire.specs.UdpCaptured.{CapturedValue, IsCaptured, RefusesCaptured}
use Rattle.frame_wire.specs.declared.tcp.Refusal.{Refusal as TcpRefusal}
use Rattle.frame_wire.specs.declared.udp.Refusal.{Refusal}
use Rattle.message_fields.specs.Checksums.{MessageValue, icmp4, icmp6, igmp, tcp, udp}
use Rattle.packet_pairs.specs.Echo.{IsEcho4, IsEcho6}
use Rattle.packet_pairs.specs.Exchange.{ExchangeValue, Finds}
use Rattle.packet_pairs.specs.Lease.{IsLease}
use Rattle.packet_pairs.specs.Names.{IsName, IsNetbios}
use Rattle.packet_pairs.specs.Neighbor.{IsNeighbor}
use Rattle.packet_pairs.specs.Types.{Addresses, Ipv6Address, Service, Way}

-- ---- over UDP

abbrev pub way_in : Addresses → CapturedValue → Way
way_in addresses c = record { addresses = addresses; asker_port = c.src_port; answerer_port = c.dst_port }

abbrev pub IsOf : Service → Way → List ℕ → ExchangeValue → Type 0
IsOf Service.Dhcp w bytes = IsLease bytes
IsOf Service.Nbns w bytes = IsNetbios w bytes
IsOf service w bytes = IsName service false w bytes

-- a datagram as far as it is there; what its header refuses is neither a question nor an answer
pub data UdpHas (service : Service) (addresses : Addresses) (bytes : List ℕ) (found : Option ExchangeValue) : Type 0
  where
    opened : (c : CapturedValue) → IsCaptured bytes c
        → Finds (IsOf service (way_in addresses c) c.payload) found → UdpHas service addresses bytes found
    unopened : (r : Refusal) → RefusesCaptured bytes r → found ≡ None → UdpHas service addresses bytes found

-- ---- over TCP

abbrev pub segment_way : Addresses → SegmentValue → Way
segment_way addresses s = record { addresses = addresses; asker_port = s.src_port; answerer_port = s.dst_port }

-- a message of DNS, whose ports are those of its segment; with one that is refused it is neither a question nor an
-- answer
pub data TcpHas (addresses : Addresses) (segment bytes : List ℕ) (found : Option ExchangeValue) : Type 0 where
  in_segment : (s : SegmentValue) → IsSegment segment s
      → Finds (IsName Service.Dns true (segment_way addresses s) bytes) found → TcpHas addresses segment bytes found
  no_segment : (r : TcpRefusal) → RefusesSegment segment r → found ≡ None → TcpHas addresses segment bytes found

-- ---- messages

abbrev pub IsIcmp6 : Ipv6Address → Ipv6Address → List ℕ → ExchangeValue → Type 0
IsIcmp6 source destination bytes e =
    IsEcho6 (Addresses.V6 source destination) bytes e ⊎ IsNeighbor source destination bytes e

-- the question or the answer that a message between these addresses is; messages of ICMPv6, UDP and TCP have their own
abbrev pub Has : MessageValue → Addresses → Option ExchangeValue → Type 0
Has (icmp4 bytes) addresses found = Finds (IsEcho4 addresses bytes) found
Has (igmp bytes) addresses found = found ≡ None
Has (icmp6 source destination bytes) addresses found = Finds (IsIcmp6 source destination bytes) found
Has (udp service between bytes) addresses found = UdpHas service between bytes found
Has (tcp between segment bytes) addresses found = TcpHas between segment bytes found
