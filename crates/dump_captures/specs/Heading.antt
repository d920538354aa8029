-- The heading of a control packet, and what is in its place in JSON.
use Rattle.std.specs.Prelude.{ℕ, List, [], ◌∷◌, ◌++◌, Option, None, Some, codes, decimal, flat_map, length, unwrap_or}
use Rattle.std.specs.Prelude.{◌==◌, Bool, drop, false, if◌then◌else◌, map, nat_lt, take, true}
use Rattle.std.specs.Option.{option_map}
use Rattle.capture.specs.Packet.{PacketValue}
use Rattle.frame_wire.specs.Link.{vlan_in}
use Rattle.frame_wire.specs.declared.datagram.Addresses.{Addresses}
use Rattle.frame_wire.specs.declared.datagram.Addresses.TheVariants.{V4, V6}
use Rattle.wirebase.specs.Hexadecimal.{hex_colons}
use Rattle.wirebase.specs.EndpointText.{v4_text, v6_text}
use Rattle.frame_wire.specs.Names.{link_names, name_in}
use Rattle.wirebase.specs.Ipv4 as ipv4
use Rattle.wirebase.specs.Ipv6Address as ipv6
use Rattle.frame_wire.specs.declared.tunnel.Tunnel.{Tunnel}
use Rattle.frame_wire.specs.declared.tunnel.Tunnel.TheVariants as tunnel
use Rattle.packet_fields.specs.Entries.{keyed_value}
use Rattle.packet_fields.specs.Fields.{Entry, Item, Leaf, entries, field, leaf_or_missing, leaf_text, missing, named}
use Rattle.packet_fields.specs.Fields.{number}
use Rattle.packet_fields.specs.Fields.{numbers, text}
use Rattle.packet_fields.specs.declared.form.Form.TheVariants.{Lines}
use Rattle.message_fields.specs.Checksums.{tcp}
use Rattle.dump_captures.specs.Arrival.{ArrivalValue}
use Rattle.dump_captures.specs.Color.{bold, is_colored, painted}
use Rattle.dump_captures.specs.Content.{ContentValue, kind_in, whole}
use Rattle.dump_captures.specs.Kinds.{kind_text}
use Rattle.dump_captures.specs.Sight.{HeadersValue}
use Rattle.dump_captures.specs.declared.options.Options.{Options}
use Rattle.dump_captures.specs.declared.path.Passage.{Passage}

-- the time of a packet, where it has one
abbrev pub time_word : Option (List ℕ) → List ℕ
time_word time = unwrap_or time (codes "-")

abbrev pub source_port : Option (ℕ × ℕ) → Option ℕ
source_port ports = option_map (λ p. p.0) ports

abbrev pub destination_port : Option (ℕ × ℕ) → Option ℕ
destination_port ports = option_map (λ p. p.1) ports

-- from where it comes and to where it goes, as far as that is known
abbrev pub addresses_text : Option Addresses → Option (ℕ × ℕ) → List ℕ
addresses_text None ports = []
addresses_text (Some (V4 source destination)) ports =
    codes " " ++ v4_text source (source_port ports) ++ codes " > " ++ v4_text destination (destination_port ports)
addresses_text (Some (V6 source destination)) ports =
    codes " " ++ v6_text source (source_port ports) ++ codes " > " ++ v6_text destination (destination_port ports)

-- the number of the VLAN of a tag of four bytes (IEEE 802.1Q clause 9.6)
abbrev pub tag_text : List ℕ → List ℕ
tag_text tag = codes " vlan=" ++ decimal (vlan_in tag 0)

-- that of each tag
abbrev pub tags_text : List ℕ → List ℕ
tags_text (a ∷ b ∷ c ∷ d ∷ rest) = tag_text (a ∷ b ∷ c ∷ d ∷ []) ++ tags_text rest
tags_text _ = []

abbrev pub tunnel_name : Tunnel → List ℕ
tunnel_name tunnel.Ipv4 = codes "ipv4"
tunnel_name tunnel.Ipv6 = codes "ipv6"
tunnel_name tunnel.Gre = codes "gre"

abbrev pub source_leaf : Addresses → Leaf
source_leaf (V4 source destination) = text (ipv4.address_text source)
source_leaf (V6 source destination) = text (ipv6.address_text source)

abbrev pub destination_leaf : Addresses → Leaf
destination_leaf (V4 source destination) = text (ipv4.address_text destination)
destination_leaf (V6 source destination) = text (ipv6.address_text destination)

abbrev pub ends_text : Leaf → Leaf → List ℕ
ends_text source destination = codes "," ++ leaf_text Lines source ++ codes "," ++ leaf_text Lines destination

-- a tunnel, and the addresses of the datagram outside
abbrev pub tunnel_text : Passage → List ℕ
tunnel_text p =
    codes " in=" ++ tunnel_name p.tunnel ++ ends_text (source_leaf p.addresses) (destination_leaf p.addresses)

abbrev pub tunnels_text : List Passage → List ℕ
tunnels_text tunnels = flat_map tunnel_text tunnels

-- the numbers of the packets that the fragments of a datagram came in
abbrev pub frames_text : List ℕ → List ℕ
frames_text [] = []
frames_text frames = codes " frames=" ++ leaf_text Lines (numbers frames)

abbrev pub hop_by_hop_text : Option (List ℕ) → List ℕ
hop_by_hop_text None = []
hop_by_hop_text (Some options) = codes " hbh"

-- a message over TCP
abbrev pub is_over_tcp : ContentValue → Bool
is_over_tcp (whole (tcp addresses segment message)) = true
is_over_tcp _ = false

abbrev pub transport_text : Bool → List ℕ
transport_text over_tcp = if over_tcp then codes " tcp" else []

-- the link addresses in the header of an Ethernet frame, the source first
abbrev pub ends_words : List ℕ → List ℕ → List ℕ
ends_words source destination = codes " link=" ++ hex_colons source ++ codes ">" ++ hex_colons destination

abbrev pub ethernet_words : List ℕ → List ℕ
ethernet_words octets =
    if nat_lt (length octets) 12 then [] else ends_words (take 6 (drop 6 octets)) (take 6 octets)

abbrev pub link_words : PacketValue → List ℕ
link_words p = if p.link_type == 1 then ethernet_words p.octets else []

-- the hops that are left, by the name that the field has
abbrev pub hops_key : Addresses → List ℕ
hops_key (V4 source destination) = codes " ttl="
hops_key (V6 source destination) = codes " hop_limit="

abbrev pub hops_word : Option Addresses → Option ℕ → List ℕ
hops_word (Some addresses) (Some hops) = hops_key addresses ++ decimal hops
hops_word addresses hops = []

-- and the bytes of the packet, of which fewer may be captured
abbrev pub more_words : PacketValue → HeadersValue → List ℕ
more_words p h = link_words p ++ codes " length=" ++ decimal p.original_len ++ hops_word h.addresses h.hop_limit

abbrev pub verbose_words : Bool → PacketValue → HeadersValue → List ℕ
verbose_words is_verbose p h = if is_verbose then more_words p h else []

-- the way to the datagram and to its message
unfoldable pub way_words : HeadersValue → List ℕ
way_words h =
    tags_text h.path.tags ++ tunnels_text h.path.tunnels ++ frames_text h.path.frames ++ hop_by_hop_text h.hop_by_hop
    ++ transport_text (is_over_tcp h.content)

-- the heading of a packet, with more words where these are asked for
unfoldable pub heading_words : Bool → ArrivalValue → HeadersValue → List ℕ
heading_words is_verbose a h =
    decimal a.number ++ codes " " ++ time_word a.time ++ addresses_text h.addresses h.ports
    ++ verbose_words is_verbose a.packet h ++ way_words h
    ++ codes " " ++ kind_text (kind_in h.content)

-- as a line, which may be bold
unfoldable pub heading : Options → ArrivalValue → HeadersValue → List ℕ
heading options a h =
    painted (is_colored options) bold (heading_words options.is_verbose a h) ++ codes "\n"

-- ---- in JSON

abbrev pub file_items : Option (List ℕ) → List Item
file_items None = []
file_items (Some name) = field (codes "file") (text name) ∷ []

abbrev pub time_items : Option (List ℕ) → List Item
time_items time = field (codes "time") (leaf_or_missing text time) ∷ []

abbrev pub link_items : ℕ → List Item
link_items n = named (codes "link") n (name_in link_names n) ∷ []

-- how many bytes of the packet were captured, and how many it had
abbrev pub length_items : ℕ → ℕ → List Item
length_items captured original =
    field (codes "length") (number captured) ∷ field (codes "original_length") (number original) ∷ []

abbrev pub vlans_of : List ℕ → List ℕ
vlans_of (a ∷ b ∷ c ∷ d ∷ rest) = vlan_in (a ∷ b ∷ c ∷ d ∷ []) 0 ∷ vlans_of rest
vlans_of _ = []

abbrev pub ends_items : Leaf → Leaf → List Item
ends_items source destination = field (codes "src_addr") source ∷ field (codes "dst_addr") destination ∷ []

abbrev pub addresses_items : Option Addresses → List Item
addresses_items None = ends_items missing missing
addresses_items (Some addresses) = ends_items (source_leaf addresses) (destination_leaf addresses)

abbrev pub port_items : Option (ℕ × ℕ) → List Item
port_items ports =
    field (codes "src_port") (leaf_or_missing number (source_port ports))
    ∷ field (codes "dst_port") (leaf_or_missing number (destination_port ports)) ∷ []

-- a tunnel as an object
abbrev pub entry_between : List ℕ → Leaf → Leaf → Entry
entry_between name source destination = record {
  label_key = codes "tunnel";
  label = name;
  first_key = codes "src_addr";
  first = source;
  rest = keyed_value (codes "dst_addr") destination;
}

abbrev pub tunnel_entry : Passage → Entry
tunnel_entry p =
    entry_between (tunnel_name p.tunnel) (source_leaf p.addresses) (destination_leaf p.addresses)

abbrev pub tunnel_items : List Passage → List Item
tunnel_items [] = []
tunnel_items tunnels = entries (codes "tunnels") (map tunnel_entry tunnels) ∷ []

abbrev pub frame_items : List ℕ → List Item
frame_items [] = []
frame_items frames = field (codes "frames") (numbers frames) ∷ []

abbrev pub transport_items : Bool → List Item
transport_items over_tcp = if over_tcp then field (codes "transport") (text (codes "tcp")) ∷ [] else []

abbrev pub path_items : HeadersValue → List Item
path_items h =
    (field (codes "vlans") (numbers (vlans_of h.path.tags)) ∷ [])
    ++ tunnel_items h.path.tunnels
    ++ addresses_items h.addresses
    ++ port_items h.ports
    ++ frame_items h.path.frames
    ++ transport_items (is_over_tcp h.content)

-- all members after the number
abbrev pub head_items : ArrivalValue → HeadersValue → List Item
head_items a h =
    file_items a.file
    ++ time_items a.time
    ++ link_items a.packet.link_type
    ++ length_items (length a.packet.octets) a.packet.original_len
    ++ path_items h
    ++ (field (codes "kind") (text (kind_text (kind_in h.content))) ∷ [])
