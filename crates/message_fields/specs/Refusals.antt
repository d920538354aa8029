-- Why messages are refused, or read in part.
use Rattle.std.specs.Prelude.{[], ◌∷◌, Bool, List, codes, false, true, ℕ}
use Rattle.frame_wire.specs.UdpRefusal as udp_texts
use Rattle.icmp4_wire.specs.IgmpRefusal as igmp_texts
use Rattle.icmp4_wire.specs.declared.icmpv4.refusal.Refusal.TheVariants as icmpv4
use Rattle.icmp4_wire.specs.declared.igmp.refusal.Refusal.TheVariants as igmp
use Rattle.icmp6_wire.specs.declared.icmpv6.refusal.Refusal.TheVariants as icmpv6
use Rattle.quote_wire.specs.Icmpv4Message as icmp4_texts
use Rattle.quote_wire.specs.Icmpv6Message as icmp6_texts
use Rattle.quote_wire.specs.declared.error.Refusal.TheVariants as error
use Rattle.quote_wire.specs.declared.message.icmpv4.Icmpv4Refusal.TheVariants as icmp4
use Rattle.quote_wire.specs.declared.message.icmpv6.Icmpv6Refusal.TheVariants as icmp6
use Rattle.packet_fields.specs.Fields.{Item, field, number, text}
use Rattle.icmp_fields.specs.Refusal as query_texts
use Rattle.neighbor_fields.specs.Lack.{lack_text}
use Rattle.dhcp_fields.specs.Refusal as dhcp_texts
use Rattle.dns_fields.specs.Unread as dns_texts
use Rattle.message_fields.specs.declared.refusal.Refusal.{Refusal}
use Rattle.message_fields.specs.declared.refusal.Refusal.TheVariants as refusal

-- the type of the message is not known, which is no mistake of the message
abbrev pub is_unknown : Refusal → Bool
is_unknown (refusal.Icmp4 (icmp4.Error (error.UnknownType t))) = true
is_unknown (refusal.Icmp4 (icmp4.Message (icmpv4.UnknownType t))) = true
is_unknown (refusal.Icmp6 (icmp6.Error (error.UnknownType t))) = true
is_unknown (refusal.Icmp6 (icmp6.Message (icmpv6.UnknownType t))) = true
is_unknown (refusal.Igmp (igmp.UnknownType t)) = true
is_unknown _ = false

-- the group of a message of IGMP is none
abbrev pub is_group : Refusal → Bool
is_group (refusal.Igmp (igmp.Group g)) = true
is_group _ = false

abbrev pub refusal_display : Refusal → List ℕ
refusal_display refusal.Checksum = codes "the checksum does not hold"
refusal_display (refusal.Udp r) = udp_texts.refusal_display r
refusal_display refusal.Cut = codes "fewer bytes than the header of UDP says"
refusal_display (refusal.Icmp4 r) = icmp4_texts.refusal_display r
refusal_display (refusal.Igmp r) = igmp_texts.refusal_display r
refusal_display (refusal.Icmp6 r) = icmp6_texts.refusal_display r
refusal_display (refusal.Query r) = query_texts.refusal_text r
refusal_display (refusal.Lack lack) = lack_text lack
refusal_display (refusal.Dhcp r) = dhcp_texts.refusal_text r
refusal_display (refusal.Dns u) = dns_texts.unread_display u

-- why a message is refused
abbrev pub refused_items : Refusal → List Item
refused_items r = field (codes "refused") (text (refusal_display r)) ∷ []

-- how many bytes of a datagram are missing
abbrev pub cut_items : ℕ → List Item
cut_items missing = field (codes "cut") (number missing) ∷ []
