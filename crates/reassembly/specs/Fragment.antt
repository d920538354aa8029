-- Fragments of datagrams of IPv4 (RFC 791 section 3.2) and of IPv6 (RFC 8200 section 4.5).
use Rattle.std.specs.Prelude.{◌≡◌, ◌≢◌, ◌≤◌, ◌<◌, ◌+◌, ◌%◌, Bool, List, None, Option, Some, drop, false, length}
use Rattle.std.specs.Prelude.{slice_index, true, ℕ}
use Rattle.std.specs.Option.{option_map}
use Rattle.wirebase.specs.Bytes.{bytes_of}
use Rattle.wirebase.specs.Ip.{protocol_of}
use Rattle.wirebase.specs.Ipv4 as ipv4
use Rattle.wirebase.specs.Ipv6 as ipv6
use Rattle.frame_wire.specs.Datagram.{Refuses4, Refuses6, next_header_in}
use Rattle.frame_wire.specs.DatagramHeaders.{EndsAt, HasAtomic, options_of}
use Rattle.frame_wire.specs.declared.datagram.Refusal.{Refusal as HeaderRefusal}
use Rattle.reassembly.specs.Types.{Addresses, Fragment, Head, IpProtocol, Key, Refusal}

-- a fragment by its content
pub record FragmentValue : Type 0 where
  pub addresses : Addresses
  pub protocol : IpProtocol
  pub ident : ℕ
  pub frag_offset : ℕ
  pub more_frags : Bool
  pub hop_by_hop : Option (List ℕ)
  pub payload : List ℕ

abbrev pub value_of : Fragment → FragmentValue
value_of f = record {
  addresses = f.addresses;
  protocol = f.protocol;
  ident = f.ident;
  frag_offset = f.frag_offset;
  more_frags = f.more_frags;
  hop_by_hop = option_map (λ options. options.now) f.hop_by_hop;
  payload = f.payload.now;
}

-- Which datagram it is of: the addresses and the identification tell, and in IPv4 the protocol.
abbrev pub key_protocol : Addresses → IpProtocol → Option IpProtocol
key_protocol (Addresses.V4 source destination) protocol = Some protocol
key_protocol (Addresses.V6 source destination) protocol = None

abbrev pub key_of : FragmentValue → Key
key_of f = record { addresses = f.addresses; protocol = key_protocol f.addresses f.protocol; ident = f.ident }

-- ---- in the octets of a packet

-- what the headers of a fragment tell
pub record HasHead (h : Head) (v : FragmentValue) : Type 0 where
  pub addresses : v.addresses ≡ h.addresses
  pub protocol : v.protocol ≡ h.protocol
  pub ident : h.ident ≡ Some v.ident
  pub frag_offset : v.frag_offset ≡ h.frag_offset
  pub more_frags : v.more_frags ≡ h.more_frags

-- IPv4: the bytes begin with a whole fragment by its own lengths, as `Datagram::parse_v4` refuses it, and its payload
-- is what follows its header.
pub record IsFragment4 (bytes : List ℕ) (v : FragmentValue) : Type 0 where
  pub head : Head
  pub fragment : Refuses4 bytes (HeaderRefusal.Fragment head)
  pub told : HasHead head v
  pub hop_by_hop : v.hop_by_hop ≡ None
  pub payload : v.payload ≡ bytes_of (ipv4.payload_field bytes) bytes

-- A protocol and the bytes after it lead past headers that extend IPv6, and atomic fragments, to the header of a
-- fragment.
pub data LeadsToFragment : IpProtocol → List ℕ → List ℕ → Type 0 where
  here : {p : IpProtocol} {bytes header : List ℕ} → p ≡ IpProtocol.Ipv6Frag → 8 ≤ length bytes → (HasAtomic bytes → ⊥)
      → header ≡ bytes → LeadsToFragment p bytes header
  past : {p : IpProtocol} {bytes header : List ℕ} (end : ℕ) → EndsAt p bytes end
      → LeadsToFragment (protocol_of (slice_index bytes 0)) (drop end bytes) header → LeadsToFragment p bytes header

-- IPv6: the bytes begin with a whole fragment by its own length, as `Datagram::parse_v6` refuses it, and its payload is
-- what follows the header of the fragment, which has eight bytes. A jumbogram has no fragments, so that the length is
-- the payload length of the fixed header. The options are those of a hop-by-hop header directly after the fixed one.
pub record IsFragment6 (bytes : List ℕ) (v : FragmentValue) : Type 0 where
  pub head : Head
  pub header : List ℕ
  pub fragment : Refuses6 bytes (HeaderRefusal.Fragment head)
  pub told : HasHead head v
  pub leads : LeadsToFragment (next_header_in bytes) (bytes_of (ipv6.payload_field bytes) bytes) header
  pub hop_by_hop : v.hop_by_hop ≡ options_of (next_header_in bytes) (bytes_of (ipv6.payload_field bytes) bytes)
  pub payload : v.payload ≡ drop 8 header

-- ---- by itself

-- It has bytes and is a part of a datagram: it begins behind its start, or more follow, and then it has eights of
-- bytes.
pub record IsInOrder (f : FragmentValue) : Type 0 where
  pub bytes : length f.payload ≢ 0
  pub part : f.more_frags ≡ false → f.frag_offset ≢ 0
  pub eights : f.more_frags ≡ true → length f.payload % 8 ≡ 0

-- the most bytes of hop-by-hop options: of the longest header's 2,048 bytes those after the first two
abbrev pub most_options : ℕ
most_options = 2046

abbrev pub options_len : Option (List ℕ) → ℕ
options_len None = 0
options_len (Some options) = length options

-- a fragment that no datagram takes: the check that fails first
abbrev pub IsMalformed : FragmentValue → Refusal → Type 0
IsMalformed f Refusal.Empty = length f.payload ≡ 0
IsMalformed f Refusal.Unfragmented = (length f.payload ≢ 0) × (f.frag_offset ≡ 0) × (f.more_frags ≡ false)
IsMalformed f Refusal.Length = (length f.payload ≢ 0) × (f.more_frags ≡ true) × (length f.payload % 8 ≢ 0)
IsMalformed f Refusal.TooLong = IsInOrder f × (65535 < f.frag_offset + length f.payload)
IsMalformed f Refusal.Options =
    IsInOrder f × (f.frag_offset + length f.payload ≤ 65535) × (most_options < options_len f.hop_by_hop)
IsMalformed f _ = ⊥

-- a fragment that a datagram may take
pub record IsSound (f : FragmentValue) : Type 0 where
  pub order : IsInOrder f
  pub within : f.frag_offset + length f.payload ≤ 65535
  pub options : options_len f.hop_by_hop ≤ most_options
