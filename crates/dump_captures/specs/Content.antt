-- What a control packet holds, by its protocol and its ports.
use Rattle.std.specs.Prelude.{◌≡◌, ℕ, ◌||◌, ◌&&◌, Bool, true, false, if◌then◌else◌, List, Option, None, Some}
use Rattle.std.specs.Option.{option_map, option_or}
use Rattle.wirebase.specs.declared.ip.IpProtocol.{IpProtocol}
use Rattle.wirebase.specs.declared.ip.IpProtocol.TheVariants.{HopByHop, Icmp, Igmp, Tcp, Udp, Ipv6Route, Ipv6Frag}
use Rattle.wirebase.specs.declared.ip.IpProtocol.TheVariants.{Icmpv6}
use Rattle.wirebase.specs.declared.ip.IpProtocol.TheVariants.{Ipv6Opts}
use Rattle.frame_wire.specs.Datagram.{DatagramValue}
use Rattle.frame_wire.specs.Tcp.{IsSegment, SegmentValue}
use Rattle.frame_wire.specs.TcpPrefixed.{IsPrefixed}
use Rattle.frame_wire.specs.declared.datagram.Addresses.{Addresses}
use Rattle.frame_wire.specs.declared.datagram.Addresses.TheVariants.{V4, V6}
use Rattle.frame_wire.specs.declared.udp.Refusal.TheVariants.{Short}
use Rattle.message_fields.specs.Checksums.{MessageValue, icmp4, igmp, icmp6, tcp, udp, value_of}
use Rattle.message_fields.specs.declared.message.Service.{Service}
use Rattle.message_fields.specs.declared.refusal.Refusal.TheVariants.{Udp as UdpHeader}
use Rattle.dump_captures.specs.Ports.{given_service, has_given, has_port}
use Rattle.dump_captures.specs.declared.content.Content.{Content}
use Rattle.dump_captures.specs.declared.content.Content.TheVariants as content
use Rattle.dump_captures.specs.declared.kind.Kind.{Kind}
use Rattle.dump_captures.specs.declared.kind.Kind.TheVariants as kind
use Rattle.dump_captures.specs.declared.kind.Reason.{Reason}
use Rattle.dump_captures.specs.declared.kind.Reason.TheVariants as reason
use Rattle.dump_captures.specs.declared.ports.Ports.{Ports}
use Rattle.dump_captures.specs.declared.refusal.Refusal.{Refusal}
use Rattle.dump_captures.specs.declared.refusal.Refusal.TheVariants as refusal

-- ---- by content

-- what a control packet holds: the message of a whole datagram, or of one of which so many bytes are missing, with the
-- reason under which it is counted; or nothing that can be read: its kind, that reason, and why
pub data ContentValue : Type 0 where
  whole : MessageValue → ContentValue
  cut : MessageValue → ℕ → Reason → ContentValue
  refused : Kind → Reason → Refusal → ContentValue

abbrev pub content_of : Content → ContentValue
content_of (content.Whole message) = whole (value_of message)
content_of (content.Cut message missing counted) = cut (value_of message) missing counted
content_of (content.Refused kind counted r) = refused kind counted r

abbrev pub kind_of_service : Service → Kind
kind_of_service Service.Dns = kind.Dns
kind_of_service Service.Mdns = kind.Mdns
kind_of_service Service.Llmnr = kind.Llmnr
kind_of_service Service.Nbns = kind.Nbns
kind_of_service Service.Dhcp = kind.Dhcp

abbrev pub kind_of_message : MessageValue → Kind
kind_of_message (icmp4 octets) = kind.Icmp4
kind_of_message (igmp octets) = kind.Igmp
kind_of_message (icmp6 source destination octets) = kind.Icmp6
kind_of_message (udp service addresses octets) = kind_of_service service
kind_of_message (tcp addresses segment octets) = kind.Dns

abbrev pub kind_in : ContentValue → Kind
kind_in (whole m) = kind_of_message m
kind_in (cut m missing counted) = kind_of_message m
kind_in (refused kind counted r) = kind

-- ---- what a datagram holds

abbrev pub is_v4 : Addresses → Bool
is_v4 (V4 source destination) = true
is_v4 (V6 source destination) = false

-- too little of a datagram can be read to tell its kind
abbrev pub unknown : ContentValue
unknown = refused kind.Frame reason.Short (refusal.Message (UdpHeader Short))

-- the service over UDP whose own port is one of these, by the first row that holds
abbrev pub own_service : Bool → ℕ × ℕ → Option Service
own_service over_v4 ports =
    if has_port ports 53 then Some Service.Dns
    else if has_port ports 5353 then Some Service.Mdns
    else if has_port ports 5355 then Some Service.Llmnr
    else if has_port ports 137 then Some Service.Nbns
    else if over_v4 && (has_port ports 67 || has_port ports 68) then Some Service.Dhcp
    else None

-- the service that one of the ports is given to, or else by its own
abbrev pub service_of : Ports → Bool → ℕ × ℕ → Option Service
service_of given over_v4 ports = option_or (given_service given over_v4 ports) (own_service over_v4 ports)

abbrev pub content_of_udp : Ports → Addresses → Option (ℕ × ℕ) → List ℕ → Option ContentValue
content_of_udp given addresses None payload = Some unknown
content_of_udp given addresses (Some ports) payload =
    option_map (λ service. whole (udp service addresses payload)) (service_of given (is_v4 addresses) ports)

-- of a protocol over IPv4 or IPv6, where an IPv6 header that was not passed hides the kind; none is of another protocol
abbrev pub content_by : Ports → Addresses → IpProtocol → Option (ℕ × ℕ) → List ℕ → Option ContentValue
content_by given addresses Udp ports payload = content_of_udp given addresses ports payload
content_by given (V4 source destination) Icmp ports payload = Some (whole (icmp4 payload))
content_by given (V4 source destination) Igmp ports payload = Some (whole (igmp payload))
content_by given (V6 source destination) Icmpv6 ports payload = Some (whole (icmp6 source destination payload))
content_by given (V6 source destination) HopByHop ports payload = Some unknown
content_by given (V6 source destination) Ipv6Route ports payload = Some unknown
content_by given (V6 source destination) Ipv6Frag ports payload = Some unknown
content_by given (V6 source destination) Ipv6Opts ports payload = Some unknown
content_by given _ _ ports payload = None

-- DNS over TCP has port 53, or the one that is given to it
abbrev pub is_dns : Ports → ℕ × ℕ → Bool
is_dns given ports = has_port ports 53 || has_given ports given.dns

-- Over TCP its payload is a segment from or to a port of DNS whose data are these messages of DNS, each behind its
-- length (RFC 1035 section 4.2.2) and with at least its header of 12 bytes.
pub record IsOverTcp (given : Ports) (d : DatagramValue) (messages : List (List ℕ)) : Type 0 where
  pub protocol : d.protocol ≡ Tcp
  pub content : SegmentValue
  pub segment : IsSegment d.payload content
  pub port : is_dns given (content.src_port, content.dst_port) ≡ true
  pub messages_are : IsPrefixed 12 content.payload messages
