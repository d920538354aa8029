-- Frames of links: what their headers say of the network, VLAN tags, and the bytes after them.
use Rattle.std.specs.Prelude.{◌≡◌, ◌≢◌, ◌+◌, ◌*◌, ◌/◌, ◌%◌, ◌≤◌, ◌⊎◌, [], ◌∷◌, ◌++◌, List, None, Option, Some, ℕ, drop}
use Rattle.std.specs.Prelude.{Bool, ◌==◌, false, if◌then◌else◌, length, nat_lt, slice_index, slice_range, take, true}
use Rattle.frame_wire.specs.Words.{Link, Network, field, number_of, part}
use Rattle.byteorder.specs.Endian.{big_number, little_number}
use Rattle.frame_wire.specs.declared.link.Frame.{Frame}
use Rattle.wirebase.specs.Numbered.{case_in}

-- a frame by its content: its tags are four bytes each
pub record FrameValue : Type 0 where
  pub network : Network
  pub tags : List ℕ
  pub payload : List ℕ

abbrev pub value_of : Frame → FrameValue
value_of f = record { network = f.network; tags = f.tags.now; payload = f.payload.now }

abbrev pub frame : Network → List ℕ → List ℕ → FrameValue
frame network tags payload = record { network = network; tags = tags; payload = payload }

-- ---- EtherTypes (IEEE 802.3 clause 3.2.6)

-- the network of an EtherType
abbrev pub network_of_type : ℕ → Network
network_of_type n = case_in Network.Other ((Network.Ipv4, 0x0800) ∷ (Network.Ipv6, 0x86dd) ∷ []) n

-- the types of a VLAN tag: of a customer, and of a service (IEEE 802.1Q clause 9.6)
abbrev pub IsTagType : ℕ → Type 0
IsTagType n = (n ≡ 0x8100) ⊎ (n ≡ 0x88a8)

-- A type is followed by any number of tags, each with the type of what is after it; these bytes follow the tags and
-- have the last of the types.
pub data IsTagged : ℕ → List ℕ → List ℕ → ℕ → List ℕ → Type 0 where
  plain : {type : ℕ} {bytes tags : List ℕ} {last : ℕ} {rest : List ℕ} → (IsTagType type → ⊥) → tags ≡ [] → last ≡ type
      → rest ≡ bytes → IsTagged type bytes tags last rest
  tagged : {type : ℕ} {bytes tags : List ℕ} {last : ℕ} {rest : List ℕ} (more : List ℕ) → IsTagType type
      → 4 ≤ length bytes → IsTagged (number_of (field 2 4) bytes) (drop 4 bytes) more last rest
      → tags ≡ take 4 bytes ++ more → IsTagged type bytes tags last rest

-- what a typed payload is, by content
pub record TypedValue : Type 0 where
  pub type : ℕ
  pub tags : List ℕ
  pub payload : List ℕ

-- ---- PPP (RFC 1661 section 2, RFC 1662 section 3.1)

-- the network of a protocol
abbrev pub network_of_protocol : ℕ → Network
network_of_protocol n = case_in Network.Other ((Network.Ipv4, 0x0021) ∷ (Network.Ipv6, 0x0057) ∷ []) n

-- A protocol takes one byte where that is odd, and else two (RFC 1661 section 6.5).
pub data IsProtocol (bytes : List ℕ) (tags : List ℕ) (v : FrameValue) : Type 0 where
  short : 1 ≤ length bytes → slice_index bytes 0 % 2 ≡ 1
      → v ≡ frame (network_of_protocol (slice_index bytes 0)) tags (drop 1 bytes) → IsProtocol bytes tags v
  long : 2 ≤ length bytes → slice_index bytes 0 % 2 ≢ 1
      → v ≡ frame (network_of_protocol (number_of (field 0 2) bytes)) tags (drop 2 bytes) → IsProtocol bytes tags v

-- the address and the control byte of a frame, ff and 03
abbrev pub HasAddress : List ℕ → Type 0
HasAddress bytes = (2 ≤ length bytes) × (number_of (field 0 2) bytes ≡ 0xff03)

-- The grammar of a frame, which may begin with an address and a control byte.
pub data IsPpp (bytes : List ℕ) (v : FrameValue) : Type 0 where
  addressed : HasAddress bytes → IsProtocol (drop 2 bytes) [] v → IsPpp bytes v
  bare : (HasAddress bytes → ⊥) → IsProtocol bytes [] v → IsPpp bytes v

-- ---- typed payloads

-- the bytes are data of a PPPoE session: version 1, type 1, and code 0 (RFC 2516 section 4)
abbrev pub IsSession : List ℕ → Type 0
IsSession bytes = (6 ≤ length bytes) × (number_of (field 0 2) bytes ≡ 0x1100)

-- what a payload of a type is: a PPPoE session has a protocol of PPP after its six bytes
pub data IsPayload (type : ℕ) (tags bytes : List ℕ) (v : FrameValue) : Type 0 where
  session : type ≡ 0x8864 → IsSession bytes → IsProtocol (drop 6 bytes) tags v → IsPayload type tags bytes v
  other : ((type ≡ 0x8864) × IsSession bytes → ⊥) → v ≡ frame (network_of_type type) tags bytes
      → IsPayload type tags bytes v

-- a type, and the bytes after it
pub record IsTypedFrame (type : ℕ) (bytes : List ℕ) (v : FrameValue) : Type 0 where
  pub typed : TypedValue
  pub tagged : IsTagged type bytes typed.tags typed.type typed.payload
  pub payload : IsPayload typed.type typed.tags typed.payload v

-- ---- links of IP alone

-- the network of the version in the upper half of the first byte
abbrev pub network_of_version : ℕ → Network
network_of_version n = case_in Network.Other ((Network.Ipv4, 4) ∷ (Network.Ipv6, 6) ∷ []) n

-- the network of an address family: those of Linux, NetBSD, FreeBSD and Darwin
abbrev pub network_of_family : ℕ → Network
network_of_family n = case_in Network.Other ((Network.Ipv4, 2) ∷ (Network.Ipv6, 10) ∷ (Network.Ipv6, 24)
    ∷ (Network.Ipv6, 28) ∷ (Network.Ipv6, 30) ∷ []) n

-- the bytes are a datagram of IP of either version
pub record IsRaw (bytes : List ℕ) (v : FrameValue) : Type 0 where
  pub some : 1 ≤ length bytes
  pub value : v ≡ frame (network_of_version (slice_index bytes 0 / 16)) [] bytes

-- The family is in four bytes in the order of the machine that captured: it has at most 16 bits, and so it is read with
-- the highest byte first where that gives such a number, and else with the lowest first.
abbrev pub family_in : List ℕ → ℕ
family_in bytes =
    if nat_lt (number_of (field 0 4) bytes) 65536 then number_of (field 0 4) bytes
    else little_number 4 (part bytes 0 4) % 65536

pub record IsFamily (bytes : List ℕ) (v : FrameValue) : Type 0 where
  pub there : 4 ≤ length bytes
  pub value : v ≡ frame (network_of_family (family_in bytes)) [] (drop 4 bytes)

-- ---- IPNET of Solaris: a version and an address family of one byte each, a kind of hook of two bytes, and the length
-- of the packet, two numbers of interfaces and two of zones of four bytes each; then the packet

abbrev pub network_of_solaris : ℕ → Network
network_of_solaris n = case_in Network.Other ((Network.Ipv4, 2) ∷ (Network.Ipv6, 26) ∷ []) n

pub record IsIpnet (bytes : List ℕ) (v : FrameValue) : Type 0 where
  pub there : 24 ≤ length bytes
  pub value : v ≡ frame (network_of_solaris (slice_index bytes 1)) [] (drop 24 bytes)

-- ---- NFLOG: a header of four bytes, and attributes
--
--  0                   1                   2                   3
--  0 1 2 3 4 5 6 7 8 9 0 1 2 3 4 5 6 7 8 9 0 1 2 3 4 5 6 7 8 9 0 1
-- +---------------+---------------+-------------------------------+
-- |    Family     |    Version    |           Resource            |
-- +---------------+---------------+-------------------------------+
-- |            Length             |             Type              |
-- +-------------------------------+-------------------------------+
-- |                   Value, padded to four bytes                 |

-- the network of an address family of Linux
abbrev pub network_of_nflog : ℕ → Network
network_of_nflog n = case_in Network.Other ((Network.Ipv4, 2) ∷ (Network.Ipv6, 10) ∷ []) n

-- Lengths and types are in the order of the machine that captured, which the frame does not tell. The type of the first
-- attribute is below 256, and so the lower byte is first where the second byte of that type is 0.
abbrev pub is_lowest_first : List ℕ → Bool
is_lowest_first attributes = slice_index attributes 3 == 0

-- the number in two bytes
unfoldable pub number_in : Bool → List ℕ → ℕ
number_in lowest_first two = if lowest_first then little_number 2 two else big_number 2 two

-- of the attribute in front: its length, which counts the four bytes of the length and the type; its type; and the
-- attributes after it
abbrev pub attribute_len : Bool → List ℕ → ℕ
attribute_len lowest_first bytes = number_in lowest_first (part bytes 0 2)

abbrev pub attribute_type : Bool → List ℕ → ℕ
attribute_type lowest_first bytes = number_in lowest_first (part bytes 2 4)

abbrev pub after_attribute : Bool → List ℕ → List ℕ
after_attribute lowest_first bytes = drop ((attribute_len lowest_first bytes + 3) / 4 * 4) bytes

pub record HasAttribute (lowest_first : Bool) (bytes : List ℕ) : Type 0 where
  pub header : 4 ≤ length bytes
  pub least : 4 ≤ attribute_len lowest_first bytes
  pub whole : attribute_len lowest_first bytes ≤ length bytes

-- the packet is the value of the first attribute of type 9
pub data HasPacket (lowest_first : Bool) : List ℕ → List ℕ → Type 0 where
  packet_here : {bytes packet : List ℕ} → HasAttribute lowest_first bytes → attribute_type lowest_first bytes ≡ 9
      → packet ≡ slice_range bytes 4 (attribute_len lowest_first bytes) → HasPacket lowest_first bytes packet
  packet_later : {bytes packet : List ℕ} → HasAttribute lowest_first bytes → attribute_type lowest_first bytes ≢ 9
      → HasPacket lowest_first (after_attribute lowest_first bytes) packet → HasPacket lowest_first bytes packet

pub record IsNflog (bytes : List ℕ) (v : FrameValue) : Type 0 where
  pub packet : List ℕ
  pub there : 4 ≤ length bytes
  pub version : slice_index bytes 1 ≡ 0
  pub attributes : HasPacket (is_lowest_first (drop 4 bytes)) (drop 4 bytes) packet
  pub value : v ≡ frame (network_of_nflog (slice_index bytes 0)) [] packet

-- ---- frame relay (RFC 2427)

-- An address has two to four bytes (RFC 2427 section 3), of which the last alone has its lowest bit set.
pub data IsAddress (bytes : List ℕ) (n : ℕ) : Type 0 where
  two_bytes : 2 ≤ length bytes → slice_index bytes 0 % 2 ≢ 1 → slice_index bytes 1 % 2 ≡ 1 → n ≡ 2 → IsAddress bytes n
  three_bytes : 3 ≤ length bytes → slice_index bytes 0 % 2 ≢ 1 → slice_index bytes 1 % 2 ≢ 1
      → slice_index bytes 2 % 2 ≡ 1 → n ≡ 3 → IsAddress bytes n
  four_bytes : 4 ≤ length bytes → slice_index bytes 0 % 2 ≢ 1 → slice_index bytes 1 % 2 ≢ 1
      → slice_index bytes 2 % 2 ≢ 1 → slice_index bytes 3 % 2 ≡ 1 → n ≡ 4 → IsAddress bytes n

-- the network of an NLPID
abbrev pub network_of_nlpid : ℕ → Network
network_of_nlpid n = case_in Network.Other ((Network.Ipv4, 0xcc) ∷ (Network.Ipv6, 0x8e) ∷ []) n

-- the organization of SNAP, in the three bytes after the NLPID
abbrev pub organization : List ℕ → ℕ
organization bytes = number_of (field 0 4) bytes % 0x1000000

-- An NLPID, and what follows it: after that of SNAP, an organization of three bytes and a type of two bytes, which is
-- an EtherType where the organization is 0. SNAP of another organization is a network by the NLPID, and its payload
-- begins with the organization.
pub data IsNlpid (bytes : List ℕ) (v : FrameValue) : Type 0 where
  by_number : 1 ≤ length bytes → slice_index bytes 0 ≢ 0x80
      → v ≡ frame (network_of_nlpid (slice_index bytes 0)) [] (drop 1 bytes) → IsNlpid bytes v
  by_ether_type : 6 ≤ length bytes → slice_index bytes 0 ≡ 0x80 → organization bytes ≡ 0
      → IsTypedFrame (number_of (field 4 6) bytes) (drop 6 bytes) v → IsNlpid bytes v
  by_organization : 6 ≤ length bytes → slice_index bytes 0 ≡ 0x80 → organization bytes ≢ 0
      → v ≡ frame (Network.Other 0x80) [] (drop 1 bytes) → IsNlpid bytes v

-- a byte of zeros may pad the control byte
abbrev pub after_pad : List ℕ → List ℕ
after_pad bytes = if slice_index bytes 0 == 0 then drop 1 bytes else bytes

-- unnumbered information: a control byte of 3, which may be padded, and an NLPID
pub record IsUnnumbered (bytes : List ℕ) (v : FrameValue) : Type 0 where
  pub there : 1 ≤ length bytes
  pub control : slice_index bytes 0 ≡ 3
  pub protocol : IsNlpid (after_pad (drop 1 bytes)) v

pub record IsFrameRelay (bytes : List ℕ) (v : FrameValue) : Type 0 where
  pub len : ℕ
  pub address : IsAddress bytes len
  pub unnumbered : IsUnnumbered (drop len bytes) v

-- ---- links

-- the link of a number (the registry of link types of pcap and pcapng)
abbrev pub link_of : ℕ → Option Link
link_of n =
    case_in (λ _. None)
    ((Some Link.Null, 0) ∷ (Some Link.Ethernet, 1) ∷ (Some Link.Ppp, 9) ∷ (Some Link.Raw, 12)
    ∷ (Some Link.Raw, 14) ∷ (Some Link.Ppp, 50) ∷ (Some Link.PppEther, 51) ∷ (Some Link.Raw, 101)
    ∷ (Some Link.CHdlc, 104) ∷ (Some Link.FrameRelay, 107) ∷ (Some Link.Null, 108) ∷ (Some Link.LinuxSll, 113)
    ∷ (Some Link.Ipnet, 226) ∷ (Some Link.Raw, 228) ∷ (Some Link.Raw, 229) ∷ (Some Link.Nflog, 239)
    ∷ (Some Link.Ipoib, 242) ∷ (Some Link.LinuxSll2, 276) ∷ []) n

-- The grammar of a frame, by its link.
abbrev pub IsFrame : Link → List ℕ → FrameValue → Type 0
IsFrame Link.Null bytes v = IsFamily bytes v
IsFrame Link.Ethernet bytes v = (14 ≤ length bytes) × IsTypedFrame (number_of (field 12 14) bytes) (drop 14 bytes) v
IsFrame Link.Ppp bytes v = IsPpp bytes v
IsFrame Link.PppEther bytes v = IsSession bytes × IsProtocol (drop 6 bytes) [] v
IsFrame Link.Raw bytes v = IsRaw bytes v
IsFrame Link.LinuxSll bytes v = (16 ≤ length bytes) × IsTypedFrame (number_of (field 14 16) bytes) (drop 16 bytes) v
IsFrame Link.LinuxSll2 bytes v = (20 ≤ length bytes) × IsTypedFrame (number_of (field 0 2) bytes) (drop 20 bytes) v
IsFrame Link.CHdlc bytes v = (4 ≤ length bytes) × IsTypedFrame (number_of (field 2 4) bytes) (drop 4 bytes) v
IsFrame Link.FrameRelay bytes v = IsFrameRelay bytes v
IsFrame Link.Ipnet bytes v = IsIpnet bytes v
IsFrame Link.Nflog bytes v = IsNflog bytes v
IsFrame Link.Ipoib bytes v = (44 ≤ length bytes) × IsTypedFrame (number_of (field 40 42) bytes) (drop 44 bytes) v

-- a frame of an EtherType
abbrev pub IsTyped : FrameValue → Type 0
IsTyped v = (type : ℕ) × (bytes : List ℕ) × IsTypedFrame type bytes v

-- The links whose frames have an EtherType, which is the number of a network `Other`, with two exceptions: below 0x0600
-- it is the length of a frame of IEEE 802.3, and in a session of PPPoE the number is a protocol of PPP.
abbrev pub has_ether_types : Link → Bool
has_ether_types Link.Ethernet = true
has_ether_types Link.LinuxSll = true
has_ether_types Link.LinuxSll2 = true
has_ether_types Link.CHdlc = true
has_ether_types Link.Ipoib = true
has_ether_types _ = false

-- the number of the VLAN of a tag, and whether there is one at a place
abbrev pub vlan_in : List ℕ → ℕ → ℕ
vlan_in tags i = number_of (field (4 * i) (4 * i + 2)) tags % 4096
