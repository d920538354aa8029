-- Datagrams of IPv4 (RFC 791 section 3.1), and of IPv6 with the headers that extend it (RFC 8200 sections 3 and 4).
use Rattle.std.specs.Prelude.{◌≡◌, ◌≢◌, ◌+◌, ◌*◌, ◌<◌, ◌≤◌, ◌⊎◌, ◌↔◌, ◌/◌, ◌%◌, IsTrue, List, None, Option, Some, ℕ}
use Rattle.std.specs.Prelude.{drop, false, length, slice_index}
use Rattle.std.specs.Option.{option_map}
use Rattle.frame_wire.specs.Words.{Addresses, Head, IpProtocol, Refusal, bytes_of, field, number_of, part}
use Rattle.frame_wire.specs.DatagramHeaders.{IsExtension, HasExtension, HasAtomic, options_of, Passes}
use Rattle.frame_wire.specs.DatagramHeaders.{LeadsToTorn, HasFragment}
use Rattle.frame_wire.specs.DatagramJumbogram.{HasJumboLen}
use Rattle.wirebase.specs.Bytes.{byte_of}
use Rattle.wirebase.specs.Ip.{protocol_of}
use Rattle.wirebase.specs.Ipv4 as ipv4
use Rattle.wirebase.specs.Ipv6 as ipv6
use Rattle.wirebase.specs.Ipv6Address.{octets_of}
use Rattle.wirebase.specs.declared.ipv4.Ipv4Address.{Ipv4Address}
use Rattle.wirebase.specs.declared.ipv6.address.Ipv6Address.{Ipv6Address}
use Rattle.frame_wire.specs.declared.datagram.Datagram.{Datagram}

-- a datagram by its content
pub record DatagramValue : Type 0 where
  pub addresses : Addresses
  pub protocol : IpProtocol
  pub hop_limit : ℕ
  pub hop_by_hop : Option (List ℕ)
  pub payload : List ℕ

abbrev pub value_of : Datagram → DatagramValue
value_of d = record {
  addresses = d.addresses;
  protocol = d.protocol;
  hop_limit = d.hop_limit;
  hop_by_hop = option_map (λ options. options.now) d.hop_by_hop;
  payload = d.payload.now;
}

-- ---- IPv4

-- the bytes begin with a header of version 4 whose lengths agree; its checksum is not looked at
pub record HasHeader4 (bytes : List ℕ) : Type 0 where
  pub fixed : 20 ≤ length bytes
  pub version : ipv4.version_in bytes ≡ 4
  pub least : 20 ≤ ipv4.header_len_in bytes
  pub order : ipv4.header_len_in bytes ≤ ipv4.total_len_in bytes

-- only a part of a datagram
abbrev pub IsFragment4 : List ℕ → Type 0
IsFragment4 bytes = (ipv4.more_frags_in bytes ≡ 1) ⊎ (ipv4.frag_offset_in bytes ≢ 0)

-- what the header tells of the datagram
pub record IsHeaded4 (bytes : List ℕ) (v : DatagramValue) : Type 0 where
  pub source : Ipv4Address
  pub destination : Ipv4Address
  pub source_is : ipv4.octets_of source ≡ bytes_of ipv4.src_addr_field bytes
  pub destination_is : ipv4.octets_of destination ≡ bytes_of ipv4.dst_addr_field bytes
  pub addresses : v.addresses ≡ Addresses.V4 source destination
  pub protocol : v.protocol ≡ protocol_of (byte_of ipv4.protocol_field bytes)
  pub hop_limit : v.hop_limit ≡ byte_of ipv4.time_to_live_field bytes
  pub hop_by_hop : v.hop_by_hop ≡ None

-- The grammar: the bytes begin with a whole datagram by its own lengths, and what follows it is ignored.
pub record IsDatagram4 (bytes : List ℕ) (v : DatagramValue) : Type 0 where
  pub header : HasHeader4 bytes
  pub total : ipv4.total_len_in bytes ≤ length bytes
  pub unfragmented : IsFragment4 bytes → ⊥
  pub headed : IsHeaded4 bytes v
  pub payload : v.payload ≡ part bytes (ipv4.header_len_in bytes) (ipv4.total_len_in bytes)

-- what the header tells of a datagram that is cut or a fragment
pub record IsHead4 (bytes : List ℕ) (h : Head) : Type 0 where
  pub source : Ipv4Address
  pub destination : Ipv4Address
  pub source_is : ipv4.octets_of source ≡ bytes_of ipv4.src_addr_field bytes
  pub destination_is : ipv4.octets_of destination ≡ bytes_of ipv4.dst_addr_field bytes
  pub addresses : h.addresses ≡ Addresses.V4 source destination
  pub protocol : h.protocol ≡ protocol_of (byte_of ipv4.protocol_field bytes)
  pub ident : h.ident ≡ Some (number_of ipv4.ident_field bytes)
  pub frag_offset : h.frag_offset ≡ ipv4.frag_offset_in bytes
  pub more_frags : IsTrue h.more_frags ↔ (ipv4.more_frags_in bytes ≡ 1)

-- the refusal of other bytes: the check that fails first
abbrev pub Refuses4 : List ℕ → Refusal → Type 0
Refuses4 bytes Refusal.Short = length bytes < 20
Refuses4 bytes (Refusal.Version n) = (20 ≤ length bytes) × (ipv4.version_in bytes ≡ n) × (n ≢ 4)
Refuses4 bytes (Refusal.HeaderLen n) =
    (20 ≤ length bytes) × (ipv4.version_in bytes ≡ 4) × (ipv4.header_len_in bytes ≡ n) × (n < 20)
Refuses4 bytes (Refusal.TotalLen n) =
    (20 ≤ length bytes) × (ipv4.version_in bytes ≡ 4) × (20 ≤ ipv4.header_len_in bytes)
    × (ipv4.total_len_in bytes ≡ n) × (n < ipv4.header_len_in bytes)
Refuses4 bytes (Refusal.Cut head) = HasHeader4 bytes × (length bytes < ipv4.total_len_in bytes) × IsHead4 bytes head
Refuses4 bytes (Refusal.Fragment head) =
    HasHeader4 bytes × (ipv4.total_len_in bytes ≤ length bytes) × IsFragment4 bytes × IsHead4 bytes head
Refuses4 bytes Refusal.Jumbogram = ⊥
Refuses4 bytes (Refusal.Extension p) = ⊥

-- ---- IPv6

-- the bytes begin with a header of version 6
pub record HasHeader6 (bytes : List ℕ) : Type 0 where
  pub fixed : 40 ≤ length bytes
  pub version : ipv6.version_in bytes ≡ 6

-- what follows the fixed header, as far as it is there, and its part up to the datagram's end
abbrev pub rest6 : List ℕ → List ℕ
rest6 bytes = drop 40 bytes

abbrev pub behind6 : List ℕ → ℕ → List ℕ
behind6 bytes end = part bytes 40 end

-- the header after the fixed one
abbrev pub next_header_in : List ℕ → IpProtocol
next_header_in bytes = protocol_of (byte_of ipv6.next_header_field bytes)

-- A jumbogram (RFC 2675 section 2): the payload length is 0, and a hop-by-hop header follows, which has the length in
-- its place. A header takes bytes, so that no other datagram has this length before one.
pub record IsJumbogram (bytes : List ℕ) : Type 0 where
  pub uncounted : ipv6.payload_len_in bytes ≡ 0
  pub header : next_header_in bytes ≡ IpProtocol.HopByHop

-- Where a datagram ends by its own length, which counts what follows the fixed header: the payload length, or of a
-- jumbogram that of its option.
pub data EndsAt6 (bytes : List ℕ) (end : ℕ) : Type 0 where
  counted : (IsJumbogram bytes → ⊥) → end ≡ 40 + ipv6.payload_len_in bytes → EndsAt6 bytes end
  jumbo : (n : ℕ) → IsJumbogram bytes → HasJumboLen (rest6 bytes) n → end ≡ 40 + n → EndsAt6 bytes end

-- The bytes are cut: they end before the datagram does, or before the end of the header with its length.
pub data IsCut6 (bytes : List ℕ) : Type 0 where
  short : (end : ℕ) → EndsAt6 bytes end → length bytes < end → IsCut6 bytes
  torn : IsJumbogram bytes → (HasExtension (rest6 bytes) → ⊥) → IsCut6 bytes

-- a fragment header in a jumbogram, which has no fragments (RFC 2675 section 3)
abbrev pub IsBroken6 : List ℕ → List ℕ → Type 0
IsBroken6 bytes behind = IsJumbogram bytes × HasFragment (next_header_in bytes) behind

-- The fixed header of a datagram, and what follows it, which leads past as many headers as there are to a protocol that
-- is none of them. A hop-by-hop header may only follow directly after the fixed one (RFC 8200 section 4.1): a later one
-- is passed like any other.
pub record IsHeaded6 (bytes behind : List ℕ) (v : DatagramValue) : Type 0 where
  pub source : Ipv6Address
  pub destination : Ipv6Address
  pub source_is : octets_of source ≡ bytes_of ipv6.src_addr_field bytes
  pub addresses : v.addresses ≡ Addresses.V6 source destination
  pub hop_limit : v.hop_limit ≡ byte_of ipv6.hop_limit_field bytes
  pub hop_by_hop : v.hop_by_hop ≡ options_of (next_header_in bytes) behind
  pub passes : Passes (next_header_in bytes) behind (bytes_of ipv6.dst_addr_field bytes) v.protocol v.payload
      (octets_of destination)
  pub passed : IsExtension v.protocol → ⊥
  pub unfragmented : v.protocol ≢ IpProtocol.Ipv6Frag
  pub unbroken : IsBroken6 bytes behind → ⊥

-- The grammar: the bytes begin with a whole datagram by its own length, and what follows it is ignored.
pub record IsDatagram6 (bytes : List ℕ) (v : DatagramValue) : Type 0 where
  pub header : HasHeader6 bytes
  pub end : ℕ
  pub ends : EndsAt6 bytes end
  pub total : end ≤ length bytes
  pub headed : IsHeaded6 bytes (behind6 bytes end) v

-- what the fixed header tells of a datagram that is cut, without the headers after it
pub record IsHead6 (bytes : List ℕ) (h : Head) : Type 0 where
  pub source : Ipv6Address
  pub destination : Ipv6Address
  pub source_is : octets_of source ≡ bytes_of ipv6.src_addr_field bytes
  pub destination_is : octets_of destination ≡ bytes_of ipv6.dst_addr_field bytes
  pub addresses : h.addresses ≡ Addresses.V6 source destination
  pub protocol : h.protocol ≡ next_header_in bytes
  pub ident : h.ident ≡ None
  pub frag_offset : h.frag_offset ≡ 0
  pub more_frags : h.more_frags ≡ false

-- The headers lead to that of a fragment that is not atomic (RFC 8200 section 4.5): the protocol after it, a reserved
-- byte, the offset in the upper 13 bits of two bytes, of which the lowest is set where more fragments follow, and the
-- identification.
pub record IsFragment6 (bytes behind : List ℕ) (h : Head) : Type 0 where
  pub source : Ipv6Address
  pub destination : Ipv6Address
  pub header : List ℕ
  pub passes : Passes (next_header_in bytes) behind (bytes_of ipv6.dst_addr_field bytes) IpProtocol.Ipv6Frag header
      (octets_of destination)
  pub whole : 8 ≤ length header
  pub no_atomic : HasAtomic header → ⊥
  pub source_is : octets_of source ≡ bytes_of ipv6.src_addr_field bytes
  pub addresses : h.addresses ≡ Addresses.V6 source destination
  pub protocol : h.protocol ≡ protocol_of (slice_index header 0)
  pub ident : h.ident ≡ Some (number_of (field 4 8) header)
  pub frag_offset : h.frag_offset ≡ 8 * (number_of (field 2 4) header / 8)
  pub more_frags : IsTrue h.more_frags ↔ (number_of (field 2 4) header % 2 ≡ 1)

-- the refusal by the bytes after a fixed header, where they lead to no payload
abbrev pub RefusesBehind6 : List ℕ → List ℕ → Refusal → Type 0
RefusesBehind6 bytes behind Refusal.Jumbogram = IsBroken6 bytes behind
RefusesBehind6 bytes behind (Refusal.Extension p) =
    (IsBroken6 bytes behind → ⊥)
    × LeadsToTorn (next_header_in bytes) behind (bytes_of ipv6.dst_addr_field bytes) p
RefusesBehind6 bytes behind (Refusal.Fragment head) = (IsBroken6 bytes behind → ⊥) × IsFragment6 bytes behind head
RefusesBehind6 bytes behind _ = ⊥

-- the refusal by the bytes up to the end of a whole datagram
pub record RefusesWhole6 (bytes : List ℕ) (refusal : Refusal) : Type 0 where
  pub header : HasHeader6 bytes
  pub end : ℕ
  pub ends : EndsAt6 bytes end
  pub total : end ≤ length bytes
  pub refuses : RefusesBehind6 bytes (behind6 bytes end) refusal

-- a jumbogram whose hop-by-hop header has no length
pub record IsEndless6 (bytes : List ℕ) : Type 0 where
  pub header : HasHeader6 bytes
  pub jumbogram : IsJumbogram bytes
  pub whole : HasExtension (rest6 bytes)
  pub endless : (end : ℕ) → EndsAt6 bytes end → ⊥

-- the refusal of other bytes: the check that fails first
abbrev pub Refuses6 : List ℕ → Refusal → Type 0
Refuses6 bytes Refusal.Short = length bytes < 40
Refuses6 bytes (Refusal.Version n) = (40 ≤ length bytes) × (ipv6.version_in bytes ≡ n) × (n ≢ 6)
Refuses6 bytes (Refusal.Cut head) = HasHeader6 bytes × IsCut6 bytes × IsHead6 bytes head
Refuses6 bytes Refusal.Jumbogram = IsEndless6 bytes ⊎ RefusesWhole6 bytes Refusal.Jumbogram
Refuses6 bytes refusal = RefusesWhole6 bytes refusal
