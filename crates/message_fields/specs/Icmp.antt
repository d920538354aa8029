-- What messages of ICMPv4, of ICMPv6 and of IGMP print: their fields, and why they are refused.
use Rattle.std.specs.Prelude.{◌≡◌, ◌==◌, ◌||◌, ◌&&◌, [], ◌∷◌, ◌++◌, Bool, List, None, Option, Some, false, if◌then◌else◌}
use Rattle.std.specs.Prelude.{codes, nat_le, true, ℕ}
use Rattle.std.specs.Option.{option_map, option_or}
use Rattle.wirebase.specs.Capabilities.{all_of}
use Rattle.wirebase.specs.declared.capabilities.Checksum.TheVariants as checksum
use Rattle.wirebase.specs.declared.ipv6.address.Ipv6Address.{Ipv6Address}
use Rattle.icmp4_wire.specs.IgmpRefusal as groups
use Rattle.icmp4_wire.specs.declared.igmp.refusal.Refusal.{Refusal as GroupRefusal}
use Rattle.icmp4_wire.specs.declared.igmp.refusal.Refusal.TheVariants as group
use Rattle.icmp6_wire.specs.declared.icmpv6.refusal.Refusal.TheVariants as icmpv6
use Rattle.quote_wire.specs.Icmpv4Message as icmp4
use Rattle.quote_wire.specs.Icmpv6Message as icmp6
use Rattle.quote_wire.specs.declared.message.icmpv6.Icmpv6Refusal.{Icmpv6Refusal}
use Rattle.quote_wire.specs.declared.message.icmpv6.Icmpv6Refusal.TheVariants as icmp6_refusal
use Rattle.packet_fields.specs.Fields.{Item, field, text}
use Rattle.icmp_fields.specs.Icmp4 as fields4
use Rattle.icmp_fields.specs.Icmp6 as fields6
use Rattle.icmp_fields.specs.declared.refusal.Told.{Told}
use Rattle.icmp_fields.specs.declared.refusal.Told.TheVariants as how
use Rattle.neighbor_fields.specs.Igmp as igmp_fields
use Rattle.neighbor_fields.specs.Mld as mld_fields
use Rattle.neighbor_fields.specs.Ndisc as ndisc_fields
use Rattle.neighbor_fields.specs.declared.lack.Lack.{Lack}
use Rattle.message_fields.specs.Refusals.{is_group, is_unknown, refusal_display, refused_items}
use Rattle.message_fields.specs.declared.refusal.Refusal.{Refusal}
use Rattle.message_fields.specs.declared.refusal.Refusal.TheVariants as refusal

-- why a message is refused; a type that is not known is no mistake of the message
abbrev pub mistake_items : Refusal → List Item
mistake_items r = if is_unknown r then [] else refused_items r

-- why it is refused where its reader refuses it: one of a type that the reader does not know may be told otherwise
abbrev pub told_as : Refusal → Told → Option Refusal
told_as r how.Fields = None
told_as r (how.Refused why) = Some (refusal.Query why)
told_as r how.Octets = Some r

abbrev pub unless_told : Refusal → Told → Option Refusal
unless_told r t = if is_unknown r then told_as r t else Some r

-- A message prints the fields of the value that its grammar has for its octets; exactly where it has none its reader
-- refuses it, by the check that fails first, and it prints its type, its code, and its octets or what else is told.
pub data Reads {V R : Type 0} (IsValue : V → Type 0) (Are : V → List Item → Type 0) (Refuses : R → Type 0)
    (of : R → Refusal) (how : Told) (unread items : List Item) (told : Option Refusal) : Type 0 where
  reads : (v : V) → IsValue v → Are v items → told ≡ None → Reads IsValue Are Refuses of how unread items told
  refuses : (r : R) → ((v : V) → IsValue v → ⊥) → Refuses r → items ≡ unread ++ mistake_items (of r)
      → told ≡ unless_told (of r) how → Reads IsValue Are Refuses of how unread items told

-- ---- ICMPv4

abbrev pub Icmp4Are : Bool → List ℕ → icmp4.MessageValue → List Item → Type 0
Icmp4Are is_whole octets (icmp4.error v) items = fields4.AreErrorItems is_whole v items
Icmp4Are is_whole octets (icmp4.other v) items = items ≡ fields4.message_items v octets

abbrev pub Icmp4Is : Bool → List ℕ → List Item → Option Refusal → Type 0
Icmp4Is is_whole octets =
    Reads (icmp4.IsMessage (all_of checksum.None) octets) (Icmp4Are is_whole octets)
    (icmp4.Refuses (all_of checksum.None) octets) refusal.Icmp4 (fields4.told octets)
    (fields4.unread_items is_whole octets)

-- a message that has less than it takes or counts
abbrev pub refusal_of : Option Lack → Option Refusal
refusal_of lack = option_map refusal.Lack lack

-- ---- IGMP

-- a report of version 3 (RFC 3376 section 4.2) is read, though the reader of the others does not know its type
abbrev pub unless_version_3 : GroupRefusal → Option Refusal
unless_version_3 (group.UnknownType t) = if t == 34 then None else Some (refusal.Igmp (group.UnknownType t))
unless_version_3 r = Some (refusal.Igmp r)

-- why the reader refuses a message
pub data IgmpTold (octets : List ℕ) (told : Option Refusal) : Type 0 where
  read : groups.IsRead octets → told ≡ None → IgmpTold octets told
  refused : (r : GroupRefusal) → groups.Refuses octets r → told ≡ unless_version_3 r → IgmpTold octets told

-- why a group is none; the fields tell every other reason
abbrev pub if_group_items : Refusal → List Item
if_group_items r = if is_group r then field (codes "group_refused") (text (refusal_display r)) ∷ [] else []

abbrev pub group_items : Option Refusal → List Item
group_items None = []
group_items (Some r) = if_group_items r

-- the fields, and why the message is refused: by its reader, or else for what it has less of
abbrev pub IgmpIs : List ℕ → List Item → Option Refusal → Type 0
IgmpIs octets items told =
    (why : Option Refusal) × IgmpTold octets why × (items ≡ igmp_fields.message_items octets ++ group_items why)
    × (told ≡ option_or why (refusal_of (igmp_fields.message_lack octets)))

-- ---- ICMPv6

-- the types of multicast listeners (RFC 2710 section 3, RFC 3810 section 5) and neighbor discovery (RFC 4861 section 4)
abbrev pub has_mld_type : List ℕ → Bool
has_mld_type [] = false
has_mld_type (t ∷ rest) = (nat_le 130 t && nat_le t 132) || (t == 143)

abbrev pub has_ndisc_type : List ℕ → Bool
has_ndisc_type [] = false
has_ndisc_type (t ∷ rest) = nat_le 133 t && nat_le t 137

-- why a message of neighbor discovery is refused
pub data NdiscTold (source destination : Ipv6Address) (octets : List ℕ) (told : Option Refusal) : Type 0 where
  read : icmp6.IsRead source destination (all_of checksum.None) octets → told ≡ None
      → NdiscTold source destination octets told
  refused : (r : Icmpv6Refusal) → icmp6.Refuses source destination (all_of checksum.None) octets r
      → told ≡ Some (refusal.Icmp6 r) → NdiscTold source destination octets told

-- the reason, where it is an option or the code; the fields tell where the message is too short
abbrev pub unless_short : Option Refusal → List Item
unless_short (Some (refusal.Icmp6 (icmp6_refusal.Message (icmpv6.Ndisc why)))) =
    refused_items (refusal.Icmp6 (icmp6_refusal.Message (icmpv6.Ndisc why)))
unless_short (Some (refusal.Icmp6 (icmp6_refusal.Message (icmpv6.Code code)))) =
    refused_items (refusal.Icmp6 (icmp6_refusal.Message (icmpv6.Code code)))
unless_short _ = []

abbrev pub NeighborIs : Ipv6Address → Ipv6Address → List ℕ → List Item → Option Refusal → Type 0
NeighborIs source destination octets items told =
    NdiscTold source destination octets told × (items ≡ ndisc_fields.message_items octets ++ unless_short told)

abbrev pub Icmp6Are : Bool → List ℕ → icmp6.MessageValue → List Item → Type 0
Icmp6Are is_whole octets (icmp6.error v) items = fields6.AreErrorItems is_whole v items
Icmp6Are is_whole octets (icmp6.other v) items = items ≡ fields6.message_items v octets

abbrev pub OthersAre : Bool → Ipv6Address → Ipv6Address → List ℕ → List Item → Option Refusal → Type 0
OthersAre is_whole source destination octets =
    Reads (icmp6.IsMessage source destination (all_of checksum.None) octets) (Icmp6Are is_whole octets)
    (icmp6.Refuses source destination (all_of checksum.None) octets) refusal.Icmp6 (fields6.told octets)
    (fields6.unread_items is_whole octets)

-- By its type: a message of multicast listeners, one of neighbor discovery, or another.
pub data Icmp6Is (is_whole : Bool) (source destination : Ipv6Address) (octets : List ℕ) (items : List Item)
    (told : Option Refusal) : Type 0 where
  of_listeners : has_mld_type octets ≡ true → items ≡ mld_fields.message_items octets
      → told ≡ refusal_of (mld_fields.message_lack octets) → Icmp6Is is_whole source destination octets items told
  of_neighbors : has_mld_type octets ≡ false → has_ndisc_type octets ≡ true
      → NeighborIs source destination octets items told → Icmp6Is is_whole source destination octets items told
  of_others : has_mld_type octets ≡ false → has_ndisc_type octets ≡ false
      → OthersAre is_whole source destination octets items told
      → Icmp6Is is_whole source destination octets items told
