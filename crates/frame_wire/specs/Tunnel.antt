-- Tunnels: what a datagram carries whose payload is itself a datagram, or a packet of another network. IPv4 and IPv6
-- follow the headers of either version of IP (RFC 2003, RFC 4213 section 3, RFC 2473), and so does GRE (RFC 2784,
-- RFC 2890 section 2, RFC 7676):
--
--  0                   1                   2                   3
--  0 1 2 3 4 5 6 7 8 9 0 1 2 3 4 5 6 7 8 9 0 1 2 3 4 5 6 7 8 9 0 1
-- +-+-+-+-+---+-------------+-----+-------------------------------+
-- |C|R|K|S|res|   ignored   | ver |         protocol type         |
-- +-+-+-+-+---+-------------+-----+-------------------------------+
-- |    checksum, where C is set   |            ignored            |
-- +-------------------------------+-------------------------------+
-- |                      key, where K is set                      |
-- +---------------------------------------------------------------+
-- |                sequence number, where S is set                |
-- +---------------------------------------------------------------+
-- |  payload
-- +- - - - - - - - - - - - - - - -
use Rattle.std.specs.Prelude.{◌≡◌, ◌≢◌, ◌+◌, ◌*◌, ◌/◌, ◌%◌, ◌<◌, ◌≤◌, [], ◌∷◌, List, None, Option, Some, ℕ, drop, length}
use Rattle.frame_wire.specs.Words.{IpProtocol, Network, field, number_of}
use Rattle.frame_wire.specs.Link.{network_of_type}
use Rattle.wirebase.specs.Bytes.{Field}
use Rattle.wirebase.specs.Checksum.{IsGood}
use Rattle.wirebase.specs.Ip.{protocol_number}
use Rattle.wirebase.specs.Numbered.{case_in}
use Rattle.frame_wire.specs.declared.tunnel.Inner.{Inner}
use Rattle.frame_wire.specs.declared.tunnel.Refusal.{Refusal}
use Rattle.frame_wire.specs.declared.tunnel.Tunnel.{Tunnel}

-- the tunnel of a protocol (the registry of protocol numbers of IP)
abbrev pub tunnel_of : IpProtocol → Option Tunnel
tunnel_of p =
    case_in (λ _. None) ((Some Tunnel.Ipv4, 4) ∷ (Some Tunnel.Ipv6, 41) ∷ (Some Tunnel.Gre, 47) ∷ [])
    (protocol_number p)

-- what is in a tunnel, by content
pub record InnerValue : Type 0 where
  pub tunnel : Tunnel
  pub network : Network
  pub payload : List ℕ

abbrev pub value_of : Inner → InnerValue
value_of i = record { tunnel = i.tunnel; network = i.network; payload = i.payload.now }

abbrev pub inner : Tunnel → Network → List ℕ → InnerValue
inner tunnel network payload = record { tunnel = tunnel; network = network; payload = payload }

-- ---- the header of GRE

abbrev pub flags_field : Field
flags_field = field 0 2

abbrev pub type_field : Field
type_field = field 2 4

-- a bit of the flags: 1 where it is set, else 0
abbrev pub bit_in : List ℕ → ℕ → ℕ
bit_in bytes weight = number_of flags_field bytes / weight % 2

-- the weights of the bits C, R, K and S
abbrev pub checksum_bit : ℕ
checksum_bit = 0x8000

abbrev pub routing_bit : ℕ
routing_bit = 0x4000

abbrev pub key_bit : ℕ
key_bit = 0x2000

abbrev pub sequence_bit : ℕ
sequence_bit = 0x1000

-- the two bits after them, which a receiver has to find 0 (RFC 2784 section 2.3)
abbrev pub reserved_in : List ℕ → ℕ
reserved_in bytes = number_of flags_field bytes / 0x400 % 4

abbrev pub version_in : List ℕ → ℕ
version_in bytes = number_of flags_field bytes % 8

-- the bytes of the header: four, and four for each part that is present
abbrev pub header_len_in : List ℕ → ℕ
header_len_in bytes =
    4 + 4 * (bit_in bytes checksum_bit + bit_in bytes key_bit + bit_in bytes sequence_bit)

-- The first four bytes of a header of version 0. A receiver that does not implement RFC 1701 discards a packet with a
-- routing field or with one of the reserved bits (RFC 2784 section 2.3).
pub record HasFlags (bytes : List ℕ) : Type 0 where
  pub fixed : 4 ≤ length bytes
  pub version : version_in bytes ≡ 0
  pub unrouted : bit_in bytes routing_bit ≡ 0
  pub unreserved : reserved_in bytes ≡ 0

-- the bytes begin with a whole header
pub record HasHeader (bytes : List ℕ) : Type 0 where
  pub flags : HasFlags bytes
  pub whole : header_len_in bytes ≤ length bytes

-- The grammar, by the tunnel: all the bytes are the packet within, or those after the header of GRE, whose protocol
-- types are EtherTypes (RFC 2784 section 2.4). Its checksum is not looked at.
abbrev pub IsInner : Tunnel → List ℕ → InnerValue → Type 0
IsInner Tunnel.Ipv4 bytes v = v ≡ inner Tunnel.Ipv4 Network.Ipv4 bytes
IsInner Tunnel.Ipv6 bytes v = v ≡ inner Tunnel.Ipv6 Network.Ipv6 bytes
IsInner Tunnel.Gre bytes v =
    HasHeader bytes
    × (v ≡ inner Tunnel.Gre (network_of_type (number_of type_field bytes)) (drop (header_len_in bytes) bytes))

-- the refusal of a header of GRE: the check that fails first
abbrev pub RefusesGre : List ℕ → Refusal → Type 0
RefusesGre bytes Refusal.Short = length bytes < 4
RefusesGre bytes (Refusal.Version n) = (4 ≤ length bytes) × (version_in bytes ≡ n) × (n ≢ 0)
RefusesGre bytes Refusal.Routing = (4 ≤ length bytes) × (version_in bytes ≡ 0) × (bit_in bytes routing_bit ≡ 1)
RefusesGre bytes Refusal.Reserved =
    (4 ≤ length bytes) × (version_in bytes ≡ 0) × (bit_in bytes routing_bit ≡ 0) × (reserved_in bytes ≢ 0)
RefusesGre bytes (Refusal.Cut n) = HasFlags bytes × (header_len_in bytes ≡ n) × (length bytes < n)

-- the refusal of other bytes: of GRE alone, since IPv4 and IPv6 have nothing before them that could be wrong
abbrev pub Refuses : Tunnel → List ℕ → Refusal → Type 0
Refuses Tunnel.Gre bytes refusal = RefusesGre bytes refusal
Refuses _ bytes refusal = ⊥

-- the bytes begin with a whole header of GRE that has a checksum
abbrev pub HasChecksum : List ℕ → Type 0
HasChecksum bytes = HasHeader bytes × (bit_in bytes checksum_bit ≡ 1)

-- that checksum holds: it is over the header and the payload (RFC 2784 section 2.5)
abbrev pub IsVerified : List ℕ → Type 0
IsVerified bytes = IsGood bytes 0
