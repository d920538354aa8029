-- The blocks of a pcapng file (draft-ietf-opsawg-pcapng sections 3 and 4).
--
--  0                   1                   2                   3
--  0 1 2 3 4 5 6 7 8 9 0 1 2 3 4 5 6 7 8 9 0 1 2 3 4 5 6 7 8 9 0 1
-- +---------------------------------------------------------------+
-- |                         kind of block                         |   any block
-- +---------------------------------------------------------------+
-- |                         total length                          |
-- +---------------------------------------------------------------+
-- |  the block's content, and in its last four bytes the total length again
-- +- - - - - - - - - - - - - - - -
--
-- +---------------------------------------------------------------+
-- |                 0x1a2b3c4d: the order of bytes                |   a section header, from byte 8 on
-- +-------------------------------+-------------------------------+
-- |         major version         |         minor version         |
-- +-------------------------------+-------------------------------+
-- |       length of the section, eight bytes, and options
-- +- - - - - - - - - - - - - - - -
--
-- +-------------------------------+-------------------------------+
-- |           link type           |           reserved            |   an interface description
-- +-------------------------------+-------------------------------+
-- |                    most bytes of a packet                     |
-- +---------------------------------------------------------------+
-- |  options
-- +- - - - - - - - - - - - - - - -
--
-- +---------------------------------------------------------------+
-- |  interface; of an obsolete packet the first two bytes alone   |   an enhanced or an obsolete packet
-- +---------------------------------------------------------------+
-- |                    time, the higher four bytes                |
-- +---------------------------------------------------------------+
-- |                    time, the lower four bytes                 |
-- +---------------------------------------------------------------+
-- |                        captured length                        |
-- +---------------------------------------------------------------+
-- |                        original length                        |
-- +---------------------------------------------------------------+
-- |  the packet, padded to four bytes, and options
-- +- - - - - - - - - - - - - - - -
--
-- +---------------------------------------------------------------+
-- |                        original length                        |   a simple packet
-- +---------------------------------------------------------------+
-- |  the packet, padded to four bytes
-- +- - - - - - - - - - - - - - - -
use Rattle.std.specs.Prelude.{◌≡◌, ◌≢◌, ℕ, ◌+◌, ◌-◌, ◌*◌, ◌/◌, ◌%◌, ◌<◌, ◌≤◌, ◌⊎◌, ◌==◌, min, List, [], length}
use Rattle.std.specs.Prelude.{ℤ, pos, drop, slice_index, slice_get, None, Some, if◌then◌else◌}
use Rattle.wirebase.specs.Bytes.{Field, field, part}
use Rattle.capture.specs.Order.{number, signed_number, number_in}
use Rattle.capture.specs.Packet.{PacketValue}
use Rattle.capture.specs.Time.{time_value, nanoseconds_of, digits_of, moved}
use Rattle.capture.specs.Types.{Ending, Refusal, Order, Head, Interface}

-- ---- any block

abbrev pub kind_field : Field
kind_field = field 0 4

abbrev pub total_len_field : Field
total_len_field = field 4 8

abbrev pub byte_order_field : Field
byte_order_field = field 8 12

-- the kinds of the blocks that are read; the bytes of a section header's are the same in both orders
abbrev pub section_kind : ℕ
section_kind = 0x0a0d0d0a

abbrev pub interface_kind : ℕ
interface_kind = 1

abbrev pub obsolete_kind : ℕ
obsolete_kind = 2

abbrev pub simple_kind : ℕ
simple_kind = 3

abbrev pub enhanced_kind : ℕ
enhanced_kind = 6

-- the bytes of a head, the most of a block that is read, and the least of each kind
abbrev pub head_len : ℕ
head_len = 12

abbrev pub most_block : ℕ
most_block = 524288

abbrev pub least_section : ℕ
least_section = 28

abbrev pub least_interface : ℕ
least_interface = 20

abbrev pub least_timed : ℕ
least_timed = 32

abbrev pub least_simple : ℕ
least_simple = 16

-- the bytes of a section header's kind
pub record IsSectionKind (bytes : List ℕ) : Type 0 where
  pub there : 4 ≤ length bytes
  pub kind : number_in Order.Big kind_field bytes ≡ section_kind

-- the kinds that are read: section headers, interface descriptions, and obsolete, simple and enhanced packets
pub data IsRead (kind : ℕ) : Type 0 where
  section_header : kind ≡ section_kind → IsRead kind
  interface_description : kind ≡ interface_kind → IsRead kind
  obsolete_packet : kind ≡ obsolete_kind → IsRead kind
  simple_packet : kind ≡ simple_kind → IsRead kind
  enhanced_packet : kind ≡ enhanced_kind → IsRead kind

-- the number that tells the order of a section's bytes, its highest byte first
abbrev pub byte_order_of : Order → ℕ
byte_order_of Order.Big = 0x1a2b3c4d
byte_order_of Order.Little = 0x4d3c2b1a

-- the order of a block's bytes: that of its section, or where it is a section header, the one that it tells
pub record HasOrder (section : Order) (bytes : List ℕ) (order : Order) : Type 0 where
  pub told : number_in section kind_field bytes ≡ section_kind
      → number_in Order.Big byte_order_field bytes ≡ byte_order_of order
  pub kept : number_in section kind_field bytes ≢ section_kind → order ≡ section

-- the length that a head tells is that of a block
pub record IsLength (n : ℕ) : Type 0 where
  pub least : head_len ≤ n
  pub words : n % 4 ≡ 0

-- The grammar of a head, in a section of an order.
pub record IsHead (section : Order) (bytes : List ℕ) (h : Head) : Type 0 where
  pub whole : head_len ≤ length bytes
  pub order : HasOrder section bytes h.order
  pub kind_is : h.kind ≡ number_in section kind_field bytes
  pub total_len : h.total_len ≡ number_in h.order total_len_field bytes
  pub length_is : IsLength h.total_len
  pub small : IsRead h.kind → h.total_len ≤ most_block

-- the refusal of other bytes, twelve or more: a section header has no byte order, or the length is not that of a block
abbrev pub RefusesHead : Order → List ℕ → Refusal → Type 0
RefusesHead section bytes Refusal.ByteOrder = (order : Order) → HasOrder section bytes order → ⊥
RefusesHead section bytes (Refusal.Length n) =
    (order : Order) × HasOrder section bytes order × (n ≡ number_in order total_len_field bytes) × (IsLength n → ⊥)
RefusesHead section bytes _ = ⊥

-- what ends a capture that goes on with these bytes, and so with no head
abbrev pub HeadEnds : Order → List ℕ → Ending → Type 0
HeadEnds section bytes Ending.Whole = bytes ≡ []
HeadEnds section bytes Ending.Cut = (bytes ≢ []) × (length bytes < head_len)
HeadEnds section bytes (Ending.Malformed r) = (head_len ≤ length bytes) × RefusesHead section bytes r
HeadEnds section bytes Ending.TooLarge = (head_len ≤ length bytes) × IsRead (number_in section kind_field bytes)
    × ((order : Order) × HasOrder section bytes order × IsLength (number_in order total_len_field bytes)
    × (most_block < number_in order total_len_field bytes))
HeadEnds section bytes _ = ⊥

-- the last four bytes are the length again
abbrev pub IsClosed : Order → List ℕ → Type 0
IsClosed order bytes = number order 4 (part bytes (length bytes - 4) (length bytes)) ≡ length bytes

-- ---- section headers

abbrev pub major_field : Field
major_field = field 12 14

abbrev pub minor_field : Field
minor_field = field 14 16

-- The grammar of a section header, of version 1.0 or 1.2; its length and its options are not looked at.
pub record IsSection (order : Order) (bytes : List ℕ) : Type 0 where
  pub whole : least_section ≤ length bytes
  pub major : number_in order major_field bytes ≡ 1
  pub minor : (number_in order minor_field bytes ≡ 0) ⊎ (number_in order minor_field bytes ≡ 2)

-- what ends a capture at a section header that is not read
abbrev pub SectionEnds : Order → List ℕ → Ending → Type 0
SectionEnds order bytes (Ending.Malformed r) = (length bytes < least_section) × (r ≡ Refusal.Short)
SectionEnds order bytes Ending.Version = (least_section ≤ length bytes) × (IsSection order bytes → ⊥)
SectionEnds order bytes _ = ⊥

-- ---- interface descriptions

abbrev pub link_type_field : Field
link_type_field = field 8 10

abbrev pub snap_len_field : Field
snap_len_field = field 12 16

-- the bytes of an option whose value has this many, which is padded to four
abbrev pub option_end : ℕ → ℕ
option_end n = 4 + (n + 3) / 4 * 4

-- the bytes begin with an option of a code, whose value has this many bytes
pub record IsOption (order : Order) (bytes : List ℕ) (code n : ℕ) : Type 0 where
  pub there : 4 ≤ length bytes
  pub code_is : number_in order (field 0 2) bytes ≡ code
  pub length_is : number_in order (field 2 4) bytes ≡ n
  pub whole : option_end n ≤ length bytes

-- The first option of a code, with a value of this many bytes, has this value; option 0 ends the list, and so does one
-- that is cut short.
pub data TellsOption (order : Order) (code n : ℕ) : List ℕ → List ℕ → Type 0 where
  here : {bytes value : List ℕ} → IsOption order bytes code n → value ≡ part bytes 4 (4 + n)
      → TellsOption order code n bytes value
  later : {bytes value : List ℕ} (other m : ℕ) → IsOption order bytes other m → other ≢ 0
      → ((other ≡ code) × (m ≡ n) → ⊥) → TellsOption order code n (drop (option_end m) bytes) value
      → TellsOption order code n bytes value

-- the resolution that options tell, by if_tsresol of one byte, or else microseconds
pub data HasResolution (order : Order) (options : List ℕ) (resolution : ℕ) : Type 0 where
  told : (value : List ℕ) → TellsOption order 9 1 options value → resolution ≡ slice_index value 0
      → HasResolution order options resolution
  microseconds : ((value : List ℕ) → TellsOption order 9 1 options value → ⊥) → resolution ≡ 6
      → HasResolution order options resolution

-- the seconds that options add to each time, by if_tsoffset of eight bytes, or else none
pub data HasOffset (order : Order) (options : List ℕ) (offset : ℤ) : Type 0 where
  moved_by : (value : List ℕ) → TellsOption order 14 8 options value → offset ≡ signed_number order value
      → HasOffset order options offset
  not_moved : ((value : List ℕ) → TellsOption order 14 8 options value → ⊥) → offset ≡ pos 0
      → HasOffset order options offset

-- The grammar of an interface description.
pub record IsInterface (order : Order) (bytes : List ℕ) (i : Interface) : Type 0 where
  pub whole : least_interface ≤ length bytes
  pub link_type : i.link_type ≡ number_in order link_type_field bytes
  pub snap_len : i.snap_len ≡ number_in order snap_len_field bytes
  pub resolution : HasResolution order (part bytes 16 (length bytes - 4)) i.resolution
  pub offset : HasOffset order (part bytes 16 (length bytes - 4)) i.offset

-- ---- packets

abbrev pub ticks_high_field : Field
ticks_high_field = field 12 16

abbrev pub ticks_low_field : Field
ticks_low_field = field 16 20

abbrev pub captured_len_field : Field
captured_len_field = field 20 24

abbrev pub original_len_field : Field
original_len_field = field 24 28

-- the interface of an enhanced packet, and of an obsolete one
abbrev pub interface_field : Field
interface_field = field 8 12

abbrev pub short_interface_field : Field
short_interface_field = field 8 10

-- of a simple packet
abbrev pub simple_len_field : Field
simple_len_field = field 8 12

-- The grammar of an enhanced or an obsolete packet, of the interface at a place.
pub record IsTimed (order : Order) (interfaces : List Interface) (place : ℕ) (bytes : List ℕ) (p : PacketValue)
    : Type 0 where
  pub whole : least_timed ≤ length bytes
  pub interface : Interface
  pub described : slice_get interfaces place ≡ Some interface
  pub fits : least_timed + number_in order captured_len_field bytes ≤ length bytes
  pub time_is : p.time ≡ Some (time_value (moved interface.offset (nanoseconds_of interface.resolution
      (number_in order ticks_high_field bytes * 4294967296 + number_in order ticks_low_field bytes)))
      (digits_of interface.resolution))
  pub link_type : p.link_type ≡ interface.link_type
  pub original_len : p.original_len ≡ number_in order original_len_field bytes
  pub octets : p.octets ≡ part bytes 28 (28 + number_in order captured_len_field bytes)

-- the bytes that are kept of a packet, where an interface keeps this many, or all for 0
abbrev pub kept_len : ℕ → ℕ → ℕ
kept_len most original = if most == 0 then original else min most original

-- The grammar of a simple packet, which belongs to the first interface and has no time.
pub record IsSimple (order : Order) (interfaces : List Interface) (bytes : List ℕ) (p : PacketValue) : Type 0 where
  pub whole : least_simple ≤ length bytes
  pub interface : Interface
  pub described : slice_get interfaces 0 ≡ Some interface
  pub fits : least_simple + kept_len interface.snap_len (number_in order simple_len_field bytes) ≤ length bytes
  pub time_is : p.time ≡ None
  pub link_type : p.link_type ≡ interface.link_type
  pub original_len : p.original_len ≡ number_in order simple_len_field bytes
  pub octets : p.octets ≡ part bytes 12 (12 + kept_len interface.snap_len (number_in order simple_len_field bytes))

-- The grammar of a packet, by the kind of its block.
pub data IsPacket (order : Order) (interfaces : List Interface) (bytes : List ℕ) (p : PacketValue) (kind : ℕ)
    : Type 0 where
  obsolete : kind ≡ obsolete_kind → IsTimed order interfaces (number_in order short_interface_field bytes) bytes p
      → IsPacket order interfaces bytes p kind
  simple : kind ≡ simple_kind → IsSimple order interfaces bytes p → IsPacket order interfaces bytes p kind
  enhanced : kind ≡ enhanced_kind → IsTimed order interfaces (number_in order interface_field bytes) bytes p
      → IsPacket order interfaces bytes p kind

-- the kinds of blocks that hold a packet
pub data HoldsPacket (kind : ℕ) : Type 0 where
  holds_obsolete : kind ≡ obsolete_kind → HoldsPacket kind
  holds_simple : kind ≡ simple_kind → HoldsPacket kind
  holds_enhanced : kind ≡ enhanced_kind → HoldsPacket kind

-- the refusal of another enhanced or obsolete packet: the block is too short, its interface is not described, or it is
-- shorter than the packet
abbrev pub RefusesTimed : Order → List Interface → ℕ → List ℕ → Refusal → Type 0
RefusesTimed order interfaces place bytes Refusal.Short = length bytes < least_timed
RefusesTimed order interfaces place bytes (Refusal.Interface n) =
    (least_timed ≤ length bytes) × (slice_get interfaces place ≡ None) × (n ≡ place)
RefusesTimed order interfaces place bytes (Refusal.CapturedLength n) =
    (least_timed ≤ length bytes) × ((i : Interface) × (slice_get interfaces place ≡ Some i))
    × (n ≡ number_in order captured_len_field bytes) × (length bytes < least_timed + n)
RefusesTimed order interfaces place bytes _ = ⊥

-- the refusal of another simple packet
abbrev pub RefusesSimple : Order → List Interface → List ℕ → Refusal → Type 0
RefusesSimple order interfaces bytes Refusal.Short = length bytes < least_simple
RefusesSimple order interfaces bytes (Refusal.Interface n) =
    (least_simple ≤ length bytes) × (slice_get interfaces 0 ≡ None) × (n ≡ 0)
RefusesSimple order interfaces bytes (Refusal.CapturedLength n) =
    (least_simple ≤ length bytes) × ((i : Interface) × (slice_get interfaces 0 ≡ Some i)
    × (n ≡ kept_len i.snap_len (number_in order simple_len_field bytes))) × (length bytes < least_simple + n)
RefusesSimple order interfaces bytes _ = ⊥

-- the refusal of a block that holds no packet, by the first check that fails
pub data RefusesPacket (order : Order) (interfaces : List Interface) (bytes : List ℕ) (kind : ℕ) (r : Refusal)
    : Type 0 where
  no_head : length bytes < head_len → r ≡ Refusal.Short → RefusesPacket order interfaces bytes kind r
  no_kind : head_len ≤ length bytes → (HoldsPacket kind → ⊥) → r ≡ Refusal.Kind kind
      → RefusesPacket order interfaces bytes kind r
  no_obsolete : head_len ≤ length bytes → kind ≡ obsolete_kind
      → RefusesTimed order interfaces (number_in order short_interface_field bytes) bytes r
      → RefusesPacket order interfaces bytes kind r
  no_simple : head_len ≤ length bytes → kind ≡ simple_kind → RefusesSimple order interfaces bytes r
      → RefusesPacket order interfaces bytes kind r
  no_enhanced : head_len ≤ length bytes → kind ≡ enhanced_kind
      → RefusesTimed order interfaces (number_in order interface_field bytes) bytes r
      → RefusesPacket order interfaces bytes kind r

-- the bytes begin with a whole block that holds a packet, by the kind and the length that its head tells
pub record BeginsPacket (section : Order) (bytes : List ℕ) : Type 0 where
  pub head : head_len ≤ length bytes
  pub kind : HoldsPacket (number_in section kind_field bytes)
  pub length_is : IsLength (number_in section total_len_field bytes)
  pub few : number_in section total_len_field bytes ≤ most_block
  pub whole : number_in section total_len_field bytes ≤ length bytes

-- The bytes show the next packet of a section: they begin with its block, or with whole blocks before it.
pub data ShowsPacket : Order → List ℕ → Type 0 where
  first : {section : Order} {bytes : List ℕ} → BeginsPacket section bytes → ShowsPacket section bytes
  behind : {section : Order} {bytes : List ℕ} (h : Head) → IsHead section bytes h → h.total_len ≤ length bytes
      → ShowsPacket h.order (drop h.total_len bytes) → ShowsPacket section bytes
