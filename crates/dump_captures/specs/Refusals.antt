-- Why control packets are refused: what the library's refusals print, and the reason under which each is counted.
use Rattle.std.specs.Prelude.{ℕ, ◌++◌, Bool, codes, if◌then◌else◌, List}
use Rattle.frame_wire.specs.DatagramDisplay as datagram_texts
use Rattle.frame_wire.specs.LinkDisplay as link_texts
use Rattle.frame_wire.specs.declared.datagram.Refusal.{Refusal as DatagramRefusal}
use Rattle.frame_wire.specs.declared.datagram.Refusal.TheVariants as datagram
use Rattle.frame_wire.specs.declared.link.refusal.Refusal.{Refusal as LinkRefusal}
use Rattle.frame_wire.specs.declared.link.refusal.Refusal.TheVariants as link
use Rattle.frame_wire.specs.declared.udp.Refusal.{Refusal as UdpRefusal}
use Rattle.frame_wire.specs.declared.udp.Refusal.TheVariants as udp
use Rattle.icmp4_wire.specs.declared.icmpv4.refusal.Refusal.TheVariants as icmpv4
use Rattle.icmp4_wire.specs.declared.igmp.refusal.Refusal.{Refusal as IgmpRefusal}
use Rattle.icmp4_wire.specs.declared.igmp.refusal.Refusal.TheVariants as igmp
use Rattle.icmp6_wire.specs.declared.icmpv6.refusal.Refusal.TheVariants as icmpv6
use Rattle.quote_wire.specs.declared.error.Refusal.TheVariants as error
use Rattle.quote_wire.specs.declared.message.icmpv4.Icmpv4Refusal.{Icmpv4Refusal}
use Rattle.quote_wire.specs.declared.message.icmpv4.Icmpv4Refusal.TheVariants as icmp4
use Rattle.quote_wire.specs.declared.message.icmpv6.Icmpv6Refusal.{Icmpv6Refusal}
use Rattle.quote_wire.specs.declared.message.icmpv6.Icmpv6Refusal.TheVariants as icmp6
use Rattle.icmp_fields.specs.declared.refusal.Refusal.{Refusal as QueryRefusal}
use Rattle.icmp_fields.specs.declared.refusal.Refusal.TheVariants as query
use Rattle.message_fields.specs.Refusals as message_texts
use Rattle.message_fields.specs.declared.refusal.Refusal.{Refusal as MessageRefusal}
use Rattle.message_fields.specs.declared.refusal.Refusal.TheVariants as message
use Rattle.dhcp_fields.specs.declared.refusal.Refusal.{Refusal as DhcpRefusal}
use Rattle.dhcp_fields.specs.declared.refusal.Refusal.TheVariants as dhcp
use Rattle.dns_fields.specs.declared.unread.Unread.{Unread}
use Rattle.dns_fields.specs.declared.unread.Unread.TheVariants as unread
use Rattle.record_wire.specs.declared.text.refusal.TextRefusal.TheVariants as text
use Rattle.reassembly.specs.AnswerDisplay as fragment_texts
use Rattle.dump_captures.specs.declared.kind.Reason.{Reason}
use Rattle.dump_captures.specs.declared.kind.Reason.TheVariants as reason
use Rattle.dump_captures.specs.declared.refusal.Refusal.{Refusal}
use Rattle.dump_captures.specs.declared.refusal.Refusal.TheVariants as refusal

-- ---- the reasons

-- what ends too early was cut where the capture kept less of the packet than there was
abbrev pub early : Bool → Reason
early is_cut = if is_cut then reason.Cut else reason.Short

abbrev pub frame_reason : Bool → LinkRefusal → Reason
frame_reason is_cut link.Short = early is_cut
frame_reason is_cut link.Tag = early is_cut
frame_reason is_cut link.Protocol = early is_cut
frame_reason is_cut _ = reason.Malformed

abbrev pub datagram_reason : Bool → DatagramRefusal → Reason
datagram_reason is_cut datagram.Short = early is_cut
datagram_reason is_cut (datagram.Cut head) = early is_cut
datagram_reason is_cut (datagram.Fragment head) = reason.Fragment
datagram_reason is_cut _ = reason.Malformed

abbrev pub udp_reason : UdpRefusal → Reason
udp_reason udp.Short = reason.Short
udp_reason (udp.Length n) = reason.Short
udp_reason (udp.Cut n) = reason.Short
udp_reason udp.NoChecksum = reason.Checksum
udp_reason udp.Checksum = reason.Checksum
udp_reason udp.Port = reason.Malformed

abbrev pub icmp4_reason : Icmpv4Refusal → Reason
icmp4_reason (icmp4.Error error.Short) = reason.Short
icmp4_reason (icmp4.Error error.Checksum) = reason.Checksum
icmp4_reason (icmp4.Error (error.UnknownType t)) = reason.UnknownType
icmp4_reason (icmp4.Error (error.Quote why)) = reason.Quote
icmp4_reason (icmp4.Message icmpv4.Short) = reason.Short
icmp4_reason (icmp4.Message icmpv4.Checksum) = reason.Checksum
icmp4_reason (icmp4.Message (icmpv4.UnknownType t)) = reason.UnknownType
icmp4_reason (icmp4.Message _) = reason.Malformed

abbrev pub igmp_reason : IgmpRefusal → Reason
igmp_reason igmp.Short = reason.Short
igmp_reason (igmp.UnknownType t) = reason.UnknownType
igmp_reason (igmp.Group group) = reason.Malformed

abbrev pub icmp6_reason : Icmpv6Refusal → Reason
icmp6_reason (icmp6.Error error.Short) = reason.Short
icmp6_reason (icmp6.Error error.Checksum) = reason.Checksum
icmp6_reason (icmp6.Error (error.UnknownType t)) = reason.UnknownType
icmp6_reason (icmp6.Error (error.Quote why)) = reason.Quote
icmp6_reason (icmp6.Message icmpv6.Short) = reason.Short
icmp6_reason (icmp6.Message icmpv6.Length) = reason.Short
icmp6_reason (icmp6.Message icmpv6.Checksum) = reason.Checksum
icmp6_reason (icmp6.Message (icmpv6.UnknownType t)) = reason.UnknownType
icmp6_reason (icmp6.Message _) = reason.Malformed

abbrev pub query_reason : QueryRefusal → Reason
query_reason query.Length = reason.Short
query_reason query.Cut = reason.Short
query_reason _ = reason.Malformed

abbrev pub dhcp_reason : DhcpRefusal → Reason
dhcp_reason dhcp.Short = reason.Short
dhcp_reason _ = reason.Malformed

abbrev pub dns_reason : Unread → Reason
dns_reason unread.Header = reason.Short
dns_reason (unread.Entry section why) = reason.Malformed
dns_reason (unread.Question why) = reason.Name
dns_reason (unread.Record (text.Owner why)) = reason.Name
dns_reason (unread.Record (text.Data why)) = reason.Malformed
dns_reason (unread.Record (text.DataName why)) = reason.Name
dns_reason (unread.Option why) = reason.Malformed
dns_reason unread.Addresses = reason.Malformed
dns_reason unread.Names = reason.Malformed

abbrev pub message_reason : MessageRefusal → Reason
message_reason message.Checksum = reason.Checksum
message_reason (message.Udp r) = udp_reason r
message_reason message.Cut = reason.Short
message_reason (message.Icmp4 r) = icmp4_reason r
message_reason (message.Igmp r) = igmp_reason r
message_reason (message.Icmp6 r) = icmp6_reason r
message_reason (message.Query r) = query_reason r
message_reason (message.Lack lack) = reason.Short
message_reason (message.Dhcp r) = dhcp_reason r
message_reason (message.Dns u) = dns_reason u

abbrev pub reason_of : Bool → Refusal → Reason
reason_of is_cut (refusal.Frame r) = frame_reason is_cut r
reason_of is_cut (refusal.Datagram r) = datagram_reason is_cut r
reason_of is_cut refusal.Header = reason.Checksum
reason_of is_cut (refusal.Fragment r) = reason.Fragment
reason_of is_cut refusal.Nested = reason.Fragment
reason_of is_cut (refusal.Message r) = message_reason r

-- ---- what they print

abbrev pub refusal_display : Refusal → List ℕ
refusal_display (refusal.Frame r) = link_texts.refusal_display r
refusal_display (refusal.Datagram r) = datagram_texts.refusal_display r
refusal_display refusal.Header = codes "the checksum of the IPv4 header does not hold"
refusal_display (refusal.Fragment r) = codes "a fragment: " ++ fragment_texts.refusal_display r
refusal_display refusal.Nested = codes "a fragment in a datagram that was put together"
refusal_display (refusal.Message r) = message_texts.refusal_display r
