-- Datagrams that were put together from fragments: the addresses that these have, the protocol that the first of them
-- names, and the payload (RFC 791 section 3.2, RFC 8200 section 4.5).
use Rattle.std.specs.Prelude.{◌≡◌, ◌≢◌, ◌*◌, ◌/◌, ◌%◌, ◌≤◌, ◌↔◌, IsTrue, List, None, Some, ℕ, length, slice_index}
use Rattle.frame_wire.specs.Words.{Addresses, Head, IpProtocol, Refusal, field, number_of}
use Rattle.frame_wire.specs.Datagram.{DatagramValue}
use Rattle.frame_wire.specs.DatagramHeaders.{HasAtomic, IsExtension, LeadsToTorn, Passes}
use Rattle.wirebase.specs.Ip.{protocol_of}
use Rattle.wirebase.specs.Ipv6Address.{octets_of}
use Rattle.wirebase.specs.declared.ipv6.address.Ipv6Address.{Ipv6Address}

-- what no fragment tells of the datagram: the hops that are left, which may differ from fragment to fragment, and the
-- hop-by-hop options, whose header is in front of each fragment
pub record IsBare (v : DatagramValue) : Type 0 where
  pub hop_limit : v.hop_limit ≡ 0
  pub hop_by_hop : v.hop_by_hop ≡ None

-- In IPv6 the payload begins with the headers that were behind that of the fragment: it leads past as many as there are
-- to a protocol that is none of them.
pub record IsJoined6 (source destination : Ipv6Address) (p : IpProtocol) (bytes : List ℕ) (v : DatagramValue)
    : Type 0 where
  pub final : Ipv6Address
  pub bare : IsBare v
  pub addresses : v.addresses ≡ Addresses.V6 source final
  pub passes : Passes p bytes (octets_of destination) v.protocol v.payload (octets_of final)
  pub passed : IsExtension v.protocol → ⊥
  pub unfragmented : v.protocol ≢ IpProtocol.Ipv6Frag

-- in IPv4 it has no such headers
pub record IsJoined4 (addresses : Addresses) (p : IpProtocol) (bytes : List ℕ) (v : DatagramValue) : Type 0 where
  pub bare : IsBare v
  pub addresses_are : v.addresses ≡ addresses
  pub protocol : v.protocol ≡ p
  pub payload : v.payload ≡ bytes

-- the datagram of a payload, by its addresses and the first protocol of the payload
abbrev pub IsJoined : Addresses → IpProtocol → List ℕ → DatagramValue → Type 0
IsJoined (Addresses.V4 source destination) p bytes v = IsJoined4 (Addresses.V4 source destination) p bytes v
IsJoined (Addresses.V6 source destination) p bytes v = IsJoined6 source destination p bytes v

-- the whole header of a fragment that is not atomic (RFC 8200 section 4.5)
pub record IsFragmentHeader (source destination : Ipv6Address) (header : List ℕ) (h : Head) : Type 0 where
  pub whole : 8 ≤ length header
  pub no_atomic : HasAtomic header → ⊥
  pub addresses : h.addresses ≡ Addresses.V6 source destination
  pub protocol : h.protocol ≡ protocol_of (slice_index header 0)
  pub ident : h.ident ≡ Some (number_of (field 4 8) header)
  pub frag_offset : h.frag_offset ≡ 8 * (number_of (field 2 4) header / 8)
  pub more_frags : IsTrue h.more_frags ↔ (number_of (field 2 4) header % 2 ≡ 1)

-- the payload leads to such a header
pub record LeadsToFragment (source destination : Ipv6Address) (p : IpProtocol) (bytes : List ℕ) (h : Head)
    : Type 0 where
  pub final : Ipv6Address
  pub header : List ℕ
  pub passes : Passes p bytes (octets_of destination) IpProtocol.Ipv6Frag header (octets_of final)
  pub fragment : IsFragmentHeader source final header h

-- the refusal of a payload in IPv6, where it leads to no other
abbrev pub RefusesJoined6 : Ipv6Address → Ipv6Address → IpProtocol → List ℕ → Refusal → Type 0
RefusesJoined6 source destination p bytes (Refusal.Extension q) = LeadsToTorn p bytes (octets_of destination) q
RefusesJoined6 source destination p bytes (Refusal.Fragment head) = LeadsToFragment source destination p bytes head
RefusesJoined6 source destination p bytes _ = ⊥

-- the refusal of a payload: in IPv6 alone
abbrev pub RefusesJoined : Addresses → IpProtocol → List ℕ → Refusal → Type 0
RefusesJoined (Addresses.V4 source destination) p bytes refusal = ⊥
RefusesJoined (Addresses.V6 source destination) p bytes refusal = RefusesJoined6 source destination p bytes refusal
