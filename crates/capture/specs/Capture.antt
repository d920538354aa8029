-- What the bytes of a capture hold: packets one after another, and what ends them.
use Rattle.std.specs.Prelude.{◌≡◌, ◌≢◌, ℕ, ◌+◌, ◌-◌, ◌^◌, ◌<◌, ◌≤◌, min, List, [], ◌∷◌, ◌++◌, length, take}
use Rattle.std.specs.Prelude.{Option, None, Some, IfSome, ⊤}
use Rattle.std.specs.Option.{option_map}
use Rattle.wirebase.specs.Bytes.{part}
use Rattle.capture.specs.Packet.{PacketValue}
use Rattle.capture.specs.Pcap.{IsFileHeader, file_header_len, FileEnds, IsRecord, ShowsRecord, RecordEnds}
use Rattle.capture.specs.Pcapng.{section_kind, interface_kind, head_len, least_interface, IsSectionKind, IsRead, IsHead}
use Rattle.capture.specs.Pcapng.{HeadEnds, IsClosed, IsSection, SectionEnds, IsInterface, IsPacket, RefusesPacket}
use Rattle.capture.specs.Pcapng.{ShowsPacket}
use Rattle.capture.specs.Time.{value_of}
use Rattle.capture.specs.Types.{Capture, Next, Record, Stage, Ending, Refusal, Order, FileHeader, Head, Interface}

-- the most bytes that are kept of a packet, and the most interfaces of a section
abbrev pub most_octets : ℕ
most_octets = 262144

abbrev pub most_interfaces : ℕ
most_interfaces = 65536

-- how far a capture is read, and the interfaces that the section has described
pub record State : Type 0 where
  pub stage : Stage
  pub interfaces : List Interface

abbrev pub state : Stage → List Interface → State
state s is = record { stage = s; interfaces = is }

-- ---- one block

-- The bytes are a block, in a section of a byte order with interfaces: what it leaves, and the packet that it holds.
pub data IsBlock (section : Order) (interfaces : List Interface) (bytes : List ℕ) (new : State)
    (packet : Option PacketValue) : Type 0 where
  passed : (h : Head) → IsHead section (take head_len bytes) h → length bytes ≡ h.total_len → (IsRead h.kind → ⊥)
      → new ≡ state (Stage.Section section) interfaces → packet ≡ None → IsBlock section interfaces bytes new packet
  header : (h : Head) → IsHead section (take head_len bytes) h → length bytes ≡ h.total_len → IsClosed h.order bytes
      → h.kind ≡ section_kind → IsSection h.order bytes
      → new ≡ state (Stage.Section h.order) [] → packet ≡ None → IsBlock section interfaces bytes new packet
  described : (h : Head) (i : Interface) → IsHead section (take head_len bytes) h → length bytes ≡ h.total_len
      → IsClosed h.order bytes → h.kind ≡ interface_kind → IsInterface h.order bytes i
      → length interfaces < most_interfaces → new ≡ state (Stage.Section section) (interfaces ++ (i ∷ []))
      → packet ≡ None → IsBlock section interfaces bytes new packet
  held : (h : Head) (p : PacketValue) → IsHead section (take head_len bytes) h → length bytes ≡ h.total_len
      → IsClosed h.order bytes → IsPacket h.order interfaces bytes p h.kind → length p.octets ≤ most_octets
      → new ≡ state (Stage.Section section) interfaces → packet ≡ Some p → IsBlock section interfaces bytes new packet

-- what ends a capture at a block that is there as a whole, by the first check that fails
pub data Refused (h : Head) (interfaces : List Interface) (block : List ℕ) (ending : Ending) : Type 0 where
  not_closed : (IsClosed h.order block → ⊥) → ending ≡ Ending.Malformed Refusal.ClosingLength
      → Refused h interfaces block ending
  no_section : IsClosed h.order block → h.kind ≡ section_kind → SectionEnds h.order block ending
      → Refused h interfaces block ending
  no_interface : IsClosed h.order block → h.kind ≡ interface_kind → length block < least_interface
      → ending ≡ Ending.Malformed Refusal.Short → Refused h interfaces block ending
  many : (i : Interface) → IsClosed h.order block → h.kind ≡ interface_kind → IsInterface h.order block i
      → most_interfaces ≤ length interfaces → ending ≡ Ending.TooManyInterfaces → Refused h interfaces block ending
  no_packet : (refusal : Refusal) → IsClosed h.order block → h.kind ≢ section_kind → h.kind ≢ interface_kind
      → RefusesPacket h.order interfaces block h.kind refusal → ending ≡ Ending.Malformed refusal
      → Refused h interfaces block ending
  large : (p : PacketValue) → IsClosed h.order block → IsPacket h.order interfaces block p h.kind
      → most_octets < length p.octets → ending ≡ Ending.TooLarge → Refused h interfaces block ending

-- what ends a section that goes on with these bytes, and so with no block
pub data BlockEnds (section : Order) (interfaces : List Interface) (bytes : List ℕ) (ending : Ending) : Type 0 where
  no_head : HeadEnds section (take head_len bytes) ending → BlockEnds section interfaces bytes ending
  cut : (h : Head) → IsHead section (take head_len bytes) h → length bytes < h.total_len → ending ≡ Ending.Cut
      → BlockEnds section interfaces bytes ending
  refused : (h : Head) → IsHead section (take head_len bytes) h → h.total_len ≤ length bytes → IsRead h.kind
      → Refused h interfaces (take h.total_len bytes) ending → BlockEnds section interfaces bytes ending

-- ---- the whole

-- the bytes begin with the kind of a section header, and so as a pcapng file does
abbrev pub BeginsSection : List ℕ → Type 0
BeginsSection bytes = IsSectionKind (take 4 bytes)

-- The bytes are the next item of a capture: a file's header, a record or a block.
pub data IsUnit (old : State) (bytes : List ℕ) (new : State) (packet : Option PacketValue) : Type 0 where
  file : (h : FileHeader) → old.stage ≡ Stage.Start → length bytes ≡ file_header_len → IsFileHeader bytes h
      → new.stage ≡ Stage.File h → packet ≡ None → IsUnit old bytes new packet
  kept : (h : FileHeader) (p : PacketValue) → old.stage ≡ Stage.File h → IsRecord most_octets h bytes p
      → new.stage ≡ Stage.File h → packet ≡ Some p → IsUnit old bytes new packet
  first : old.stage ≡ Stage.Start → BeginsSection bytes → IsBlock Order.Big old.interfaces bytes new packet
      → IsUnit old bytes new packet
  block : (section : Order) → old.stage ≡ Stage.Section section → IsBlock section old.interfaces bytes new packet
      → IsUnit old bytes new packet

-- what ends a capture that goes on with these bytes
pub data Ends (s : State) (bytes : List ℕ) (ending : Ending) : Type 0 where
  ended : s.stage ≡ Stage.End ending → Ends s bytes ending
  no_file : s.stage ≡ Stage.Start → (BeginsSection bytes → ⊥) → FileEnds (take file_header_len bytes) ending
      → Ends s bytes ending
  no_record : (h : FileHeader) → s.stage ≡ Stage.File h → RecordEnds most_octets h bytes ending → Ends s bytes ending
  no_first : s.stage ≡ Stage.Start → BeginsSection bytes → BlockEnds Order.Big s.interfaces bytes ending
      → Ends s bytes ending
  no_block : (section : Order) → s.stage ≡ Stage.Section section → BlockEnds section s.interfaces bytes ending
      → Ends s bytes ending

-- These bytes have the next packet's record or block as a whole, and the blocks before it; at the start nothing is
-- known of what comes, and after the end nothing is read.
abbrev pub ShowsNext : Stage → List ℕ → Type 0
ShowsNext Stage.Start shown = ⊥
ShowsNext (Stage.File h) shown = ShowsRecord most_octets h.order shown
ShowsNext (Stage.Section section) shown = ShowsPacket section shown
ShowsNext (Stage.End ending) shown = ⊤

abbrev pub ShowsUnit : State → List ℕ → Type 0
ShowsUnit s shown = ShowsNext s.stage shown

-- The definition of a capture: read as far as a state tells, it holds these packets in the bytes that are left, and
-- then ends so.
pub data Holds : State → List ℕ → List PacketValue → Ending → Type 0 where
  ends : {s : State} {bytes : List ℕ} {ending : Ending} → Ends s bytes ending → Holds s bytes [] ending
  passes : {s : State} {bytes : List ℕ} {packets : List PacketValue} {ending : Ending} (front rest : List ℕ)
      (new : State) → bytes ≡ front ++ rest → IsUnit s front new None → Holds new rest packets ending
      → Holds s bytes packets ending
  packet : {s : State} {bytes : List ℕ} {packets : List PacketValue} {ending : Ending} (front rest : List ℕ)
      (new : State) (p : PacketValue) → bytes ≡ front ++ rest → IsUnit s front new (Some p)
      → Holds new rest packets ending → Holds s bytes (p ∷ packets) ending

-- these bytes, a file from its first byte on, hold these packets, and no others (`one_capture` of proofs/OneCapture)
abbrev pub IsCapture : List ℕ → List PacketValue → Ending → Type 0
IsCapture bytes packets ending = Holds (state Stage.Start []) bytes packets ending

-- ---- the reader

-- how far it is, the bytes of the packet that it read last, and how many packets it read
abbrev pub state_of : Capture → State
state_of c = state c.stage c.interfaces.items

abbrev pub octets_of : Capture → List ℕ
octets_of c = part c.octets.items c.start c.end

abbrev pub count_of : Capture → ℕ
count_of c = c.count

-- a record's packet, of these bytes
abbrev pub packet_of : Record → List ℕ → PacketValue
packet_of r octets = record {
  time = option_map value_of r.time;
  link_type = r.link_type;
  original_len = r.original_len;
  octets = octets;
}

-- What a call of `next` tells of all bytes that were left, where `left` are left after it: the first packet in them, or
-- what ends them where there is none.
abbrev pub GivesNext : State → List ℕ → Next → List ℕ → State → Option (List ℕ) → Type 0
GivesNext old bytes (Next.Record r) octets new left =
    (rest : List ℕ) × (left ≡ Some rest) × ((packets : List PacketValue) (ending : Ending)
    → Holds new rest packets ending → Holds old bytes (packet_of r octets ∷ packets) ending)
GivesNext old bytes (Next.Ended ending) octets new left = Holds old bytes [] ending × (new.stage ≡ Stage.End ending)

-- a record is in order: its number, its time where it has one, and its captured length
pub record IsInOrder (r : Record) (octets : List ℕ) (old new : ℕ) : Type 0 where
  pub number : r.number ≡ min (old + 1) (2 ^ 64 - 1)
  pub count_is : new ≡ r.number
  pub nanoseconds : IfSome r.time (λ t. t.nanoseconds < 1000000000)
  pub captured_len : r.captured_len ≡ length octets

abbrev pub IfRecord : Next → (Record → Type 0) → Type 0
IfRecord (Next.Record r) P = P r
IfRecord (Next.Ended ending) P = Unit {0}
