-- What UDP datagrams of a service print: the fields of their messages, and why they are refused.
use Rattle.std.specs.Prelude.{◌≡◌, [], ◌∷◌, ◌++◌, Bool, List, Option, Some, codes, true, ℕ}
use Rattle.std.specs.Option.{option_map}
use Rattle.frame_wire.specs.UdpCaptured.{CapturedValue, IsCaptured, RefusesCaptured}
use Rattle.frame_wire.specs.declared.datagram.captured.Extent.{Extent}
use Rattle.frame_wire.specs.declared.udp.Refusal.{Refusal as UdpRefusal}
use Rattle.packet_fields.specs.Fields.{Item, field, octets as octets_leaf}
use Rattle.dhcp_fields.specs.Dhcp as dhcp
use Rattle.dhcp_fields.specs.declared.refusal.Refusal.{Refusal as DhcpRefusal}
use Rattle.dns_fields.specs.Message as dns
use Rattle.dns_fields.specs.declared.kind.Kind.{Kind}
use Rattle.dns_fields.specs.declared.unread.Unread.{Unread}
use Rattle.message_fields.specs.Refusals.{cut_items, refused_items}
use Rattle.message_fields.specs.declared.message.Service.{Service}
use Rattle.message_fields.specs.declared.refusal.Refusal.{Refusal}
use Rattle.message_fields.specs.declared.refusal.Refusal.TheVariants as refusal

-- ---- services

abbrev pub DnsIs : Kind → List ℕ → List Item → Option Refusal → Type 0
DnsIs kind bytes items told =
    (unread : Option Unread) × dns.MessageIs kind bytes items unread × (told ≡ option_map refusal.Dns unread)

abbrev pub DhcpIs : List ℕ → List Item → Option Refusal → Type 0
DhcpIs bytes items told =
    (why : Option DhcpRefusal) × dhcp.PacketIs bytes items why × (told ≡ option_map refusal.Dhcp why)

abbrev pub ServiceIs : Service → List ℕ → List Item → Option Refusal → Type 0
ServiceIs Service.Dns = DnsIs Kind.Dns
ServiceIs Service.Mdns = DnsIs Kind.Mdns
ServiceIs Service.Llmnr = DnsIs Kind.Llmnr
ServiceIs Service.Nbns = DnsIs Kind.Nbns
ServiceIs Service.Dhcp = DhcpIs

-- ---- datagrams

-- how many bytes are missing, where that is to be told
abbrev pub extent_items : Bool → Extent → List Item
extent_items true (Extent.Cut missing) = cut_items missing
extent_items tells_cut extent = []

-- the first of two reasons: that of the extent, and that of the message
abbrev pub told_by : Extent → Option Refusal → Option Refusal
told_by (Extent.Cut missing) told = Some refusal.Cut
told_by extent told = told

-- a datagram, as far as it is there
abbrev pub DatagramIs : Bool → Service → CapturedValue → List Item → Option Refusal → Type 0
DatagramIs tells_cut service c items told =
    (body : List Item) × (told_in : Option Refusal) × ServiceIs service c.payload body told_in
    × (items ≡ extent_items tells_cut c.extent ++ body) × (told ≡ told_by c.extent told_in)

-- why a datagram is refused, and its octets
abbrev pub unopened_items : Refusal → List ℕ → List Item
unopened_items r bytes = refused_items r ++ (field (codes "octets") (octets_leaf bytes) ∷ [])

pub data UdpIs (tells_cut : Bool) (service : Service) (bytes : List ℕ) (items : List Item) (told : Option Refusal)
    : Type 0 where
  opened : (c : CapturedValue) → IsCaptured bytes c → DatagramIs tells_cut service c items told
      → UdpIs tells_cut service bytes items told
  unopened : (r : UdpRefusal) → RefusesCaptured bytes r → items ≡ unopened_items (refusal.Udp r) bytes
      → told ≡ Some (refusal.Udp r) → UdpIs tells_cut service bytes items told
