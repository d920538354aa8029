-- Brief lines of DNS (RFC 1035 section 4.1), multicast DNS (RFC 6762), LLMNR (RFC 4795) and the NetBIOS name service
-- (RFC 1002 section 4.2): the transaction, what is asked, and the first answer.
use Rattle.std.specs.Prelude.{◌≡◌, ◌≢◌, ◌==◌, ◌&&◌, ◌<◌, ◌-◌, ◌++◌, [], Bool, List, None, Option, Some, ℕ, codes, decimal}
use Rattle.std.specs.Prelude.{false, if◌then◌else◌, length, nat_lt, slice_index, take, true}
use Rattle.std.specs.Int.RustNames.{bit_and}
use Rattle.wirebase.specs.Bytes.{Reaches, number_of}
use Rattle.dns_wire.specs.DnsPacket.{answer_count_field, header, id_field, opcode_in, question_count_field, rcode_in}
use Rattle.dns_wire.specs.DnsTables.{type_number}
use Rattle.dns_wire.specs.declared.dns.tables.Type.{«Type» as RecordType}
use Rattle.record_wire.specs.Entries.{EntryValue, IsNext, Left, all_of, question, record_in}
use Rattle.record_wire.specs.Multicast.{record_class}
use Rattle.record_wire.specs.NameRefusal.{HasName}
use Rattle.record_wire.specs.Names.{Names}
use Rattle.record_wire.specs.Record.{QuestionValue, RecordValue}
use Rattle.record_wire.specs.RecordText.{DataTextValue, IsRecordText, RecordTextValue, data_text, other, strings}
use Rattle.record_wire.specs.declared.entries.Section.{Section}
use Rattle.packet_fields.specs.Labels.{label_text}
use Rattle.packet_fields.specs.Names.{name_in}
use Rattle.dns_fields.specs.Header.{opcode_rows, rcode_rows, word_in}
use Rattle.dns_fields.specs.Kind.{is_multicast, is_netbios, name_text, type_text}
use Rattle.dns_fields.specs.Nbns.{layout_of, names_in}
use Rattle.dns_fields.specs.Node.{part_text, width}
use Rattle.dns_fields.specs.declared.kind.Kind.{Kind}
use Rattle.dns_fields.specs.declared.nbns.Layout.{Layout}
use Rattle.dns_fields.specs.declared.node.Part.{Part}
use Rattle.message_brief.specs.Words.{more_text, word}

-- ---- the header

-- the flag QR is clear in a query
abbrev pub is_query : ℕ → Bool
is_query word = nat_lt word 0x8000

abbrev pub id_text : ℕ → Bool → List ℕ
id_text id asks = word (decimal id) ++ (if asks then codes "?" else [])

-- the kind of query, but for the usual one
abbrev pub opcode_text : Kind → ℕ → List ℕ
opcode_text kind w =
    if opcode_in w == 0 then []
    else word (label_text (name_in (opcode_rows kind) (opcode_in w)) (codes "opcode") (opcode_in w))

-- the outcome, which queries do not have
abbrev pub rcode_text : Kind → ℕ → List ℕ
rcode_text kind w =
    if is_query w then []
    else word (label_text (name_in (rcode_rows kind) (rcode_in w)) (codes "rcode") (rcode_in w))

-- the flag TC tells that the message was truncated
abbrev pub truncated_text : ℕ → List ℕ
truncated_text w = if bit_and w 0x200 == 0 then [] else word (codes "tc")

abbrev pub word_text : Kind → ℕ → List ℕ
word_text kind w = opcode_text kind w ++ (rcode_text kind w ++ truncated_text w)

abbrev pub front_text : Kind → List ℕ → List ℕ
front_text kind bytes =
    id_text (number_of id_field bytes) (is_query (word_in bytes)) ++ word_text kind (word_in bytes)

-- ---- the first question

-- there is none, none begins where one is to be, its name does not read, or it reads
pub data Asked : Type 0 where
  nothing : Asked
  unread : Asked
  unnamed : RecordType → Asked
  named : RecordType → List (List ℕ) → Asked

-- a question with its name, where this reads
pub data IsNamed (message : List ℕ) (q : QuestionValue) : Asked → Type 0 where
  has_no_name : (HasName q.name message → ⊥) → IsNamed message q (unnamed q.kind)
  has_name : (labels : List (List ℕ)) → Names message q.name labels → IsNamed message q (named q.kind labels)

-- what a message asks first
pub data IsAsked (message : List ℕ) : Asked → Type 0 where
  asks_nothing : number_of question_count_field message ≡ 0 → IsAsked message nothing
  asks_unread : number_of question_count_field message ≢ 0
      → ((q : QuestionValue) (after : Left) → IsNext (all_of message) (question q) after → ⊥) → IsAsked message unread
  asks_of : (q : QuestionValue) (after : Left) (asked : Asked) → IsNext (all_of message) (question q) after
      → IsNamed message q asked → IsAsked message asked

abbrev pub asks_in_full : Asked → Bool
asks_in_full nothing = true
asks_in_full unread = false
asks_in_full (unnamed t) = false
asks_in_full (named t labels) = true

-- the type and the name, as far as they read
abbrev pub asked_text : Kind → Asked → List ℕ
asked_text kind nothing = []
asked_text kind unread = []
asked_text kind (unnamed t) = word (type_text kind t)
asked_text kind (named t labels) = word (type_text kind t) ++ word (name_text kind labels)

-- ---- the first answer

-- the first record behind the questions that are left; none where it, or a question before it, does not begin
pub data FirstRecord : Left → Option RecordValue → Type 0 where
  is_next : (left after : Left) (section : Section) (r : RecordValue) → IsNext left (record_in section r) after
      → FirstRecord left (Some r)
  is_behind : (left after : Left) (q : QuestionValue) (found : Option RecordValue) → IsNext left (question q) after
      → FirstRecord after found → FirstRecord left found
  is_missing : (left : Left) → ((value : EntryValue) (after : Left) → IsNext left value after → ⊥)
      → FirstRecord left None

-- there is none, it does not read, or it reads: its name, its type, and the text of its data
pub data Answered : Type 0 where
  none : Answered
  unreadable : Answered
  tells : List (List ℕ) → RecordType → List ℕ → Answered

-- data as a zone file has them; of long strings, and of long data that are not told apart, how many octets they are
abbrev pub long_or : ℕ → List ℕ → List ℕ → List ℕ
long_or most bytes text = if nat_lt most (length bytes) then decimal (length bytes) ++ codes " bytes" else text

abbrev pub brief_data : DataTextValue → List ℕ
brief_data (strings bytes) = long_or 64 bytes (data_text (strings bytes))
brief_data (other bytes) = long_or 32 bytes (data_text (other bytes))
brief_data value = data_text value

-- a record, whose class in multicast DNS is without its top bit
pub data RecordTells (kind : Kind) (message : List ℕ) (r : RecordValue) : Answered → Type 0 where
  reads : (value : RecordTextValue) → IsRecordText message (record_class (is_multicast kind) r.kind r.class) r value
      → RecordTells kind message r (tells value.name value.kind (brief_data value.«data»))
  reads_not : ((value : RecordTextValue)
      → IsRecordText message (record_class (is_multicast kind) r.kind r.class) r value → ⊥)
      → RecordTells kind message r unreadable

-- a record of the NetBIOS name service that has no address, or counts no name
abbrev pub has_no_part : Layout → List ℕ → Bool
has_no_part Layout.Addresses bytes = length bytes == 0
has_no_part Layout.Names bytes = nat_lt 0 (length bytes) && (slice_index bytes 0 == 0)
has_no_part Layout.Octets bytes = false

-- the first address or the first name of one, or data that are neither
abbrev pub first_part : Part → List ℕ → Option (List ℕ)
first_part part bytes =
    if nat_lt (length bytes) (width part) then None else Some (part_text part (take (width part) bytes))

abbrev pub some_data : Layout → List ℕ → Option (List ℕ)
some_data Layout.Addresses bytes = first_part Part.Address bytes
some_data Layout.Names bytes = first_part Part.Name (names_in bytes)
some_data Layout.Octets bytes = Some (brief_data (other bytes))

abbrev pub node_data : Layout → List ℕ → Option (List ℕ)
node_data layout bytes = if has_no_part layout bytes then Some (codes "-") else some_data layout bytes

abbrev pub tells_if : List (List ℕ) → RecordType → Option (List ℕ) → Answered
tells_if labels t None = unreadable
tells_if labels t (Some text) = tells labels t text

pub data NodeTells (message : List ℕ) (r : RecordValue) : Answered → Type 0 where
  node_reads : (labels : List (List ℕ)) → Names message r.name labels
      → NodeTells message r (tells_if labels r.kind (node_data (layout_of (word_in message) r) r.«data»))
  node_reads_not : (HasName r.name message → ⊥) → NodeTells message r unreadable

abbrev pub AnyTells : Bool → Kind → List ℕ → RecordValue → Answered → Type 0
AnyTells true kind message r answered = NodeTells message r answered
AnyTells false kind message r answered = RecordTells kind message r answered

-- what a message answers first
pub data IsAnswered (kind : Kind) (message : List ℕ) : Answered → Type 0 where
  has_none : number_of answer_count_field message ≡ 0 → IsAnswered kind message none
  has_unread : number_of answer_count_field message ≢ 0 → FirstRecord (all_of message) None
      → IsAnswered kind message unreadable
  has : (r : RecordValue) (answered : Answered) → number_of answer_count_field message ≢ 0
      → FirstRecord (all_of message) (Some r) → AnyTells (is_netbios kind) kind message r answered
      → IsAnswered kind message answered

abbrev pub answers_in_full : Answered → Bool
answers_in_full none = true
answers_in_full unreadable = false
answers_in_full (tells labels t text) = true

-- The type and the name stand before the data where no question has them, and the type alone where it is another one.
abbrev pub other_type : Kind → RecordType → RecordType → List ℕ
other_type kind asked t = if type_number asked == type_number t then [] else type_text kind t ++ codes " "

abbrev pub lead_text : Kind → Asked → List (List ℕ) → RecordType → List ℕ
lead_text kind (named asked asked_labels) labels t = codes " = " ++ other_type kind asked t
lead_text kind asked labels t = word (type_text kind t) ++ (word (name_text kind labels) ++ codes " = ")

-- the first of n answers
abbrev pub answer_text : Kind → Asked → Answered → ℕ → List ℕ
answer_text kind asked none n = []
answer_text kind asked unreadable n = []
answer_text kind asked (tells labels t text) n = lead_text kind asked labels t ++ (text ++ more_text (n - 1))

-- ---- messages

-- the first of n questions, and with it the first of n answers
abbrev pub query_text : Kind → Asked → ℕ → List ℕ
query_text kind asked n = asked_text kind asked ++ (if asks_in_full asked then more_text (n - 1) else [])

abbrev pub response_text : Kind → Asked → Answered → ℕ → List ℕ
response_text kind asked answered n =
    asked_text kind asked ++ (if asks_in_full asked then answer_text kind asked answered n else [])

-- The text of a message, and whether all of it that is told reads.
pub data DnsIs (kind : Kind) (bytes : List ℕ) : List ℕ → Bool → Type 0 where
  is_short : length bytes < 12 → DnsIs kind bytes [] false
  asks : (asked : Asked) → Reaches header bytes → is_query (word_in bytes) ≡ true → IsAsked bytes asked
      → DnsIs kind bytes (front_text kind bytes ++ query_text kind asked (number_of question_count_field bytes))
      (asks_in_full asked)
  responds : (asked : Asked) (answered : Answered) → Reaches header bytes → is_query (word_in bytes) ≡ false
      → IsAsked bytes asked → IsAnswered kind bytes answered
      → DnsIs kind bytes
      (front_text kind bytes ++ response_text kind asked answered (number_of answer_count_field bytes))
      (asks_in_full asked && answers_in_full answered)
