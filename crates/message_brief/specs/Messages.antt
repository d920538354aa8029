-- What messages say on a line, behind their kind.
use Rattle.std.specs.Prelude.{◌≡◌, ◌&&◌, ◌++◌, [], Bool, List, false, if◌then◌else◌, true, ℕ}
use Rattle.frame_wire.specs.UdpCaptured.{CapturedValue, IsCaptured, RefusesCaptured}
use Rattle.frame_wire.specs.declared.datagram.Extent.{Extent}
use Rattle.frame_wire.specs.declared.udp.Refusal.{Refusal as UdpRefusal}
use Rattle.dns_fields.specs.declared.kind.Kind.{Kind}
use Rattle.message_fields.specs.Checksums.{MessageValue, icmp4, icmp6, igmp, tcp, udp}
use Rattle.message_fields.specs.Icmp.{has_mld_type, has_ndisc_type}
use Rattle.message_fields.specs.declared.message.Service.{Service}
use Rattle.message_brief.specs.Dhcp.{DhcpIs}
use Rattle.message_brief.specs.Dns.{DnsIs}
use Rattle.message_brief.specs.Groups as groups
use Rattle.message_brief.specs.Icmp as icmp
use Rattle.message_brief.specs.Neighbors as neighbors
use Rattle.message_brief.specs.Words.{ending_text}

-- ---- ICMPv6, by the type

abbrev pub icmp6_text : List ℕ → List ℕ
icmp6_text bytes =
    if has_mld_type bytes then groups.mld_text bytes
    else if has_ndisc_type bytes then neighbors.neighbors_text bytes
    else icmp.icmp6_text bytes

abbrev pub is_whole6 : List ℕ → Bool
is_whole6 bytes =
    if has_mld_type bytes then groups.is_whole6 bytes
    else if has_ndisc_type bytes then neighbors.is_whole bytes
    else icmp.is_whole6 bytes

-- ---- UDP

abbrev pub ServiceIs : Service → List ℕ → List ℕ → Bool → Type 0
ServiceIs Service.Dns = DnsIs Kind.Dns
ServiceIs Service.Mdns = DnsIs Kind.Mdns
ServiceIs Service.Llmnr = DnsIs Kind.Llmnr
ServiceIs Service.Nbns = DnsIs Kind.Nbns
ServiceIs Service.Dhcp = DhcpIs

abbrev pub is_all : Extent → Bool
is_all (Extent.Cut missing) = false
is_all _ = true

-- A datagram as far as it is there, or nothing where its header is refused.
pub data UdpIs (service : Service) (bytes : List ℕ) : List ℕ → Bool → Type 0 where
  opened : (c : CapturedValue) (text : List ℕ) (whole : Bool) → IsCaptured bytes c
      → ServiceIs service c.payload text whole → UdpIs service bytes text (whole && is_all c.extent)
  unopened : (why : UdpRefusal) → RefusesCaptured bytes why → UdpIs service bytes [] false

-- ---- messages

-- the text of a message, and whether all of it that is told is there and reads
abbrev pub BodyIs : MessageValue → List ℕ → Bool → Type 0
BodyIs (icmp4 bytes) text whole = (text ≡ icmp.icmp4_text bytes) × (whole ≡ icmp.is_whole4 bytes)
BodyIs (igmp bytes) text whole = (text ≡ groups.igmp_text bytes) × (whole ≡ groups.is_whole4 bytes)
BodyIs (icmp6 source destination bytes) text whole = (text ≡ icmp6_text bytes) × (whole ≡ is_whole6 bytes)
BodyIs (udp service addresses bytes) text whole = UdpIs service bytes text whole
BodyIs (tcp addresses segment bytes) text whole = ServiceIs Service.Dns bytes text whole

-- a message; and one of whose datagram some bytes are missing
pub record BriefIs (m : MessageValue) (text : List ℕ) : Type 0 where
  pub body : List ℕ
  pub whole : Bool
  pub is : BodyIs m body whole
  pub text_is : text ≡ body ++ ending_text whole

pub record CutBriefIs (m : MessageValue) (text : List ℕ) : Type 0 where
  pub body : List ℕ
  pub whole : Bool
  pub is : BodyIs m body whole
  pub text_is : text ≡ body ++ ending_text false
