-- What the headers of a packet tell: whether it is a control packet and of which kind, and what its heading says of it.
use Rattle.std.specs.Prelude.{◌≡◌, ◌≤◌, ◌↔◌, ℕ, ◌==◌, nat_lt, Bool, false, if◌then◌else◌, List, [], length}
use Rattle.std.specs.Prelude.{drop, IsTrue, Option, None, Some}
use Rattle.std.specs.Option.{option_map}
use Rattle.wirebase.specs.Bytes.{Reaches, bytes_of}
use Rattle.wirebase.specs.Checksum.{IsGood}
use Rattle.wirebase.specs.Ip.{protocol_number}
use Rattle.wirebase.specs.Ipv4.{header_field, header_len_in}
use Rattle.wirebase.specs.declared.ip.IpProtocol.{IpProtocol}
use Rattle.capture.specs.Packet.{PacketValue}
use Rattle.frame_wire.specs.Captured.{CapturedValue, IsCaptured4, RefusesCaptured4, IsCaptured6, RefusesCaptured6}
use Rattle.frame_wire.specs.Datagram.{value_of as datagram_of}
use Rattle.frame_wire.specs.Datagram.{DatagramValue, IsDatagram4, Refuses4, IsDatagram6, Refuses6}
use Rattle.frame_wire.specs.Link.{FrameValue, link_of, IsFrame, has_ether_types}
use Rattle.frame_wire.specs.LinkRefusal.{Refuses}
use Rattle.frame_wire.specs.TcpPrefixed.{messages_of}
use Rattle.frame_wire.specs.declared.datagram.Addresses.{Addresses}
use Rattle.frame_wire.specs.declared.datagram.Head.{Head}
use Rattle.frame_wire.specs.declared.datagram.captured.Extent.{Extent}
use Rattle.frame_wire.specs.declared.datagram.Refusal.{Refusal as DatagramRefusal}
use Rattle.frame_wire.specs.declared.datagram.Refusal.TheVariants as datagram
use Rattle.frame_wire.specs.declared.link.Link.{Link}
use Rattle.frame_wire.specs.declared.link.refusal.Refusal.{Refusal as LinkRefusal}
use Rattle.packet_fields.specs.Ports.{ports_in}
use Rattle.reassembly.specs.Fragment.{FragmentValue, IsFragment4, IsFragment6}
use Rattle.reassembly.specs.Fragment as fragments
use Rattle.message_fields.specs.Checksums.{tcp}
use Rattle.dump_captures.specs.Content.{ContentValue, IsOverTcp, content_by, content_of, cut, kind_in, refused, whole}
use Rattle.dump_captures.specs.Path.{PathValue, path_of}
use Rattle.dump_captures.specs.Place.{LeadsTo, PlaceValue, StepValue, packet_in}
use Rattle.dump_captures.specs.Place as step
use Rattle.dump_captures.specs.Refusals.{reason_of}
use Rattle.dump_captures.specs.declared.counts.Category.{Category}
use Rattle.dump_captures.specs.declared.counts.Category.TheVariants as category
use Rattle.dump_captures.specs.declared.kind.Kind.{Kind}
use Rattle.dump_captures.specs.declared.kind.Kind.TheVariants as kind
use Rattle.dump_captures.specs.declared.kind.Reason.{Reason}
use Rattle.dump_captures.specs.declared.place.Version.TheVariants as version
use Rattle.dump_captures.specs.declared.ports.Ports.{Ports}
use Rattle.dump_captures.specs.declared.refusal.Refusal.{Refusal}
use Rattle.dump_captures.specs.declared.refusal.Refusal.TheVariants as refusal
use Rattle.dump_captures.specs.declared.sight.Finding.{Finding}
use Rattle.dump_captures.specs.declared.sight.Finding.TheVariants as finding
use Rattle.dump_captures.specs.declared.sight.Headers.{Headers}
use Rattle.dump_captures.specs.declared.sight.Segment.{Segment}
use Rattle.dump_captures.specs.declared.sight.Sight.{Sight}
use Rattle.dump_captures.specs.declared.sight.Sight.TheVariants as sight

-- ---- by content

-- what the headers of a control packet tell: the way to its datagram, the addresses, the ports and the hop-by-hop
-- options where there are any, and whether the checksum of the IPv4 header is wrong
pub record HeadersValue : Type 0 where
  pub path : PathValue
  pub addresses : Option Addresses
  pub ports : Option (ℕ × ℕ)
  pub hop_limit : Option ℕ
  pub hop_by_hop : Option (List ℕ)
  pub is_header_bad : Bool
  pub content : ContentValue

-- a segment of TCP with messages of DNS: the way to its datagram, whether the checksum of the IPv4 header is wrong, the
-- datagram, and the messages
pub record StreamValue : Type 0 where
  pub path : PathValue
  pub is_header_bad : Bool
  pub datagram : DatagramValue
  pub messages : List (List ℕ)

-- a frame of a link that is not read, a packet of another protocol, a control packet, or several messages in a segment
pub data SightValue : Type 0 where
  unread : SightValue
  other : Category → SightValue
  control : HeadersValue → SightValue
  stream : StreamValue → SightValue

-- that, or a fragment of a datagram and the way to it
pub data FindingValue : Type 0 where
  seen : SightValue → FindingValue
  fragment : PathValue → FragmentValue → FindingValue

abbrev pub headers_of : Headers → HeadersValue
headers_of h = record {
  path = path_of h.path;
  addresses = h.addresses;
  ports = h.ports;
  hop_limit = h.hop_limit;
  hop_by_hop = option_map (λ octets. octets.now) h.hop_by_hop;
  is_header_bad = h.is_header_bad;
  content = content_of h.content;
}

abbrev pub stream_of : Segment → StreamValue
stream_of s = record {
  path = path_of s.path;
  is_header_bad = s.is_header_bad;
  datagram = datagram_of s.datagram;
  messages = messages_of s.messages;
}

abbrev pub sight_of : Sight → SightValue
sight_of sight.Unread = unread
sight_of (sight.Other category) = other category
sight_of (sight.Control h) = control (headers_of h)
sight_of (sight.Segment s) = stream (stream_of s)

abbrev pub finding_of : Finding → FindingValue
finding_of (finding.Sight s) = seen (sight_of s)
finding_of (finding.Fragment path f) = fragment (path_of path) (fragments.value_of f)

-- ---- packets of other protocols

-- one of an IP protocol
abbrev pub protocol_category : IpProtocol → Category
protocol_category p = category.Protocol (protocol_number p)

-- one of a network on a link that is not IP
abbrev pub network_category : Link → ℕ → Category
network_category link n = if has_ether_types link then category.EtherType n else category.Network n

-- ---- a datagram that is whole

abbrev pub sight_by : IpProtocol → Option ContentValue → (ContentValue → HeadersValue) → SightValue
sight_by p None headers = other (protocol_category p)
sight_by p (Some content) headers = control (headers content)

-- the hops that are left; not where fragments were put together, which may differ in it
abbrev pub hop_limit_by : List ℕ → ℕ → Option ℕ
hop_limit_by [] hops = Some hops
hop_limit_by frames hops = None

abbrev pub hop_limit_in : PathValue → DatagramValue → Option ℕ
hop_limit_in path d = hop_limit_by path.frames d.hop_limit

abbrev pub datagram_headers : PathValue → Bool → DatagramValue → ContentValue → HeadersValue
datagram_headers path bad d content = record {
  path = path;
  addresses = Some d.addresses;
  ports = ports_in d.protocol d.payload;
  hop_limit = hop_limit_in path d;
  hop_by_hop = d.hop_by_hop;
  is_header_bad = bad;
  content = content;
}

abbrev pub datagram_sight : Ports → PathValue → Bool → DatagramValue → SightValue
datagram_sight given path bad d =
    sight_by d.protocol (content_by given d.addresses d.protocol (ports_in d.protocol d.payload) d.payload)
    (datagram_headers path bad d)

-- what the headers tell of a message in a segment
abbrev pub stream_headers : StreamValue → List ℕ → HeadersValue
stream_headers s message =
    datagram_headers s.path s.is_header_bad s.datagram (whole (tcp s.datagram.addresses s.datagram.payload message))

-- by its messages over TCP, or else by its protocol
pub data IsWhole (given : Ports) (path : PathValue) (bad : Bool) (d : DatagramValue) (s : SightValue) : Type 0 where
  over_tcp : (messages : List (List ℕ)) → IsOverTcp given d messages
      → s ≡ stream (record { path = path; is_header_bad = bad; datagram = d; messages = messages })
      → IsWhole given path bad d s
  otherwise : ((messages : List (List ℕ)) → IsOverTcp given d messages → ⊥) → s ≡ datagram_sight given path bad d
      → IsWhole given path bad d s

-- The IPv4 header at the start of these bytes is there, and its checksum does not hold.
pub record HasBadHeader (bytes : List ℕ) : Type 0 where
  pub fixed : 20 ≤ length bytes
  pub there : Reaches (header_field bytes) bytes
  pub bad : IsGood (bytes_of (header_field bytes) bytes) 0 → ⊥

-- ---- a datagram that is refused

-- the capture kept less of the packet than there was
abbrev pub is_cut : PacketValue → Bool
is_cut p = nat_lt (length p.octets) p.original_len

-- nothing is known of the way to it
abbrev pub no_path : PathValue
no_path = record { tags = []; tunnels = []; frames = [] }

abbrev pub refused_headers : PathValue → Option Addresses → Option (ℕ × ℕ) → Kind → Reason → Refusal → HeadersValue
refused_headers path addresses ports kind counted r = record {
  path = path;
  addresses = addresses;
  ports = ports;
  hop_limit = None;
  hop_by_hop = None;
  is_header_bad = false;
  content = refused kind counted r;
}

-- only the way to it is known
abbrev pub untold : PathValue → Reason → Refusal → SightValue
untold path counted r = control (refused_headers path None None kind.Frame counted r)

-- its addresses and its protocol are known, and the ports where they are there: they tell the kind, whatever the
-- payload
abbrev pub told : Ports → PathValue → Addresses → IpProtocol → Option (ℕ × ℕ) → Reason → Refusal → SightValue
told given path addresses protocol ports counted r =
    sight_by protocol (content_by given addresses protocol ports [])
    (λ content. refused_headers path (Some addresses) ports (kind_in content) counted r)

-- what there is of a datagram that is refused, of which this would be the content: the message of one that is cut
abbrev pub front_content : Extent → Reason → Refusal → ContentValue → ContentValue
front_content (Extent.Cut missing) counted r (whole m) = cut m missing counted
front_content extent counted r content = refused (kind_in content) counted r

-- the start of a datagram, as far as the capture has it
abbrev pub told_front : Ports → PathValue → Bool → CapturedValue → Reason → Refusal → SightValue
told_front given path bad c counted r =
    sight_by c.datagram.protocol
    (content_by given c.datagram.addresses c.datagram.protocol (ports_in c.datagram.protocol c.datagram.payload)
    c.datagram.payload)
    (λ content. datagram_headers path bad c.datagram (front_content c.extent counted r content))

-- what is known of a datagram whose start was not captured
abbrev pub head_of : DatagramRefusal → Option Head
head_of (datagram.Cut head) = Some head
head_of (datagram.Fragment head) = Some head
head_of _ = None

-- the ports after an IPv4 header; a fragment that is not the first begins with none
abbrev pub ports_behind : List ℕ → Head → Option (ℕ × ℕ)
ports_behind bytes h = if h.frag_offset == 0 then ports_in h.protocol (drop (header_len_in bytes) bytes) else None

-- By the start where it was captured; or else by what is known without it.
pub data IsRefused4 (given : Ports) (path : PathValue) (bytes : List ℕ) (counted : Reason) (r : Refusal)
    (s : SightValue) : Type 0 where
  by_front : (c : CapturedValue) (bad : Bool) → IsCaptured4 bytes c → (IsTrue bad ↔ HasBadHeader bytes)
      → s ≡ told_front given path bad c counted r → IsRefused4 given path bytes counted r s
  by_head : (other : DatagramRefusal) (h : Head) → RefusesCaptured4 bytes other → head_of other ≡ Some h
      → s ≡ told given path h.addresses h.protocol (ports_behind bytes h) counted r
      → IsRefused4 given path bytes counted r s
  by_none : (other : DatagramRefusal) → RefusesCaptured4 bytes other → head_of other ≡ None
      → s ≡ untold path counted r → IsRefused4 given path bytes counted r s

pub data IsRefused6 (given : Ports) (path : PathValue) (bytes : List ℕ) (counted : Reason) (r : Refusal)
    (s : SightValue) : Type 0 where
  by_front : (c : CapturedValue) → IsCaptured6 bytes c → s ≡ told_front given path false c counted r
      → IsRefused6 given path bytes counted r s
  by_head : (other : DatagramRefusal) (h : Head) → RefusesCaptured6 bytes other → head_of other ≡ Some h
      → s ≡ told given path h.addresses h.protocol None counted r → IsRefused6 given path bytes counted r s
  by_none : (other : DatagramRefusal) → RefusesCaptured6 bytes other → head_of other ≡ None
      → s ≡ untold path counted r → IsRefused6 given path bytes counted r s

-- ---- a datagram at its place

abbrev pub counted_as : PacketValue → Refusal → Reason
counted_as p r = reason_of (is_cut p) r

-- The datagram that begins at a place, of IPv4 and of IPv6: a whole one, a whole fragment of one, or one that is
-- refused.
pub data IsSight4 (given : Ports) (p : PacketValue) (at : PlaceValue) (s : FindingValue) : Type 0 where
  whole4 : (d : DatagramValue) (bad : Bool) (told : SightValue) → IsDatagram4 at.bytes d
      → (IsTrue bad ↔ HasBadHeader at.bytes) → IsWhole given at.path bad d told → s ≡ seen told → IsSight4 given p at s
  fragment4 : (f : FragmentValue) → IsFragment4 at.bytes f → s ≡ fragment at.path f → IsSight4 given p at s
  refused4 : (r : DatagramRefusal) (told : SightValue) → Refuses4 at.bytes r
      → ((f : FragmentValue) → IsFragment4 at.bytes f → ⊥)
      → IsRefused4 given at.path at.bytes (counted_as p (refusal.Datagram r)) (refusal.Datagram r) told → s ≡ seen told
      → IsSight4 given p at s

pub data IsSight6 (given : Ports) (p : PacketValue) (at : PlaceValue) (s : FindingValue) : Type 0 where
  whole6 : (d : DatagramValue) (told : SightValue) → IsDatagram6 at.bytes d → IsWhole given at.path false d told
      → s ≡ seen told → IsSight6 given p at s
  fragment6 : (f : FragmentValue) → IsFragment6 at.bytes f → s ≡ fragment at.path f → IsSight6 given p at s
  refused6 : (r : DatagramRefusal) (told : SightValue) → Refuses6 at.bytes r
      → ((f : FragmentValue) → IsFragment6 at.bytes f → ⊥)
      → IsRefused6 given at.path at.bytes (counted_as p (refusal.Datagram r)) (refusal.Datagram r) told → s ≡ seen told
      → IsSight6 given p at s

-- where the tunnels end
pub data IsEndSight (given : Ports) (p : PacketValue) (e : StepValue) (s : FindingValue) : Type 0 where
  of_v4 : (at : PlaceValue) → e ≡ step.datagram at → at.version ≡ version.V4 → IsSight4 given p at s
      → IsEndSight given p e s
  of_v6 : (at : PlaceValue) → e ≡ step.datagram at → at.version ≡ version.V6 → IsSight6 given p at s
      → IsEndSight given p e s
  of_network : (n : ℕ) → e ≡ step.other n → s ≡ seen (other (category.EtherType n)) → IsEndSight given p e s

-- ---- a packet

abbrev pub frame_path : FrameValue → PathValue
frame_path f = record { tags = f.tags; tunnels = []; frames = [] }

-- The frame of a packet on its link, and the packet by its link.
pub data IsFrameSight (given : Ports) (p : PacketValue) (link : Link) (f : FrameValue) (s : FindingValue) : Type 0 where
  tunnels_end : (at : PlaceValue) (e : StepValue) → packet_in (frame_path f) f.network f.payload ≡ step.datagram at
      → LeadsTo (step.datagram at) e → IsEndSight given p e s → IsFrameSight given p link f s
  other_network : (n : ℕ) → packet_in (frame_path f) f.network f.payload ≡ step.other n
      → s ≡ seen (other (network_category link n)) → IsFrameSight given p link f s

pub data IsSight (given : Ports) (p : PacketValue) (s : FindingValue) : Type 0 where
  no_link : link_of p.link_type ≡ None → s ≡ seen unread → IsSight given p s
  no_frame : (link : Link) (r : LinkRefusal) → link_of p.link_type ≡ Some link
      → ((f : FrameValue) → IsFrame link p.octets f → ⊥) → Refuses link p.octets r
      → s ≡ seen (untold no_path (counted_as p (refusal.Frame r)) (refusal.Frame r)) → IsSight given p s
  framed : (link : Link) (f : FrameValue) → link_of p.link_type ≡ Some link → IsFrame link p.octets f
      → IsFrameSight given p link f s → IsSight given p s
