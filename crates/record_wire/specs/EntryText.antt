-- An entry of a message with its names read, and its line: the section, what a zone file has of the entry, and in
-- multicast DNS a mark where the top bit of its class is set (RFC 6762 sections 5.4 and 10.2).
use Rattle.std.specs.Prelude.{◌≡◌, ◌&&◌, [], ◌∷◌, Bool, List, ℕ, codes, if◌then◌else◌}
use Rattle.record_wire.specs.Words.{Section, TextRefusal, pieces}
use Rattle.record_wire.specs.declared.text.question.QuestionText.{QuestionText}
use Rattle.dns_wire.specs.declared.dns.tables.Type.{«Type» as RecordType}
use Rattle.record_wire.specs.Entries as entries
use Rattle.record_wire.specs.Multicast.{has_top_bit, flushes, question_class, record_class}
use Rattle.record_wire.specs.Name.{labels_of}
use Rattle.record_wire.specs.NameRefusal.{RefusesName}
use Rattle.record_wire.specs.Record.{QuestionValue}
use Rattle.record_wire.specs.RecordDisplay.{section_display}
use Rattle.record_wire.specs.Names.{Names}
use Rattle.record_wire.specs.RecordText.{RecordTextValue, record_text_of, IsRecordText, RefusesText, question_text}
use Rattle.record_wire.specs.RecordText.{record_text}
use Rattle.record_wire.specs.declared.text.entry.EntryText.{EntryText}

-- ---- entries by content: of each name its labels

pub record QuestionTextValue : Type 0 where
  pub name : List (List ℕ)
  pub class : ℕ
  pub kind : RecordType

-- each with its flag
pub data EntryTextValue : Type 0 where
  question : QuestionTextValue → Bool → EntryTextValue
  record_in : Section → RecordTextValue → Bool → EntryTextValue

abbrev pub question_text_of : QuestionText → QuestionTextValue
question_text_of q = record { name = labels_of q.name; class = q.class; kind = q.type_ }

abbrev pub entry_text_of : EntryText → EntryTextValue
entry_text_of (EntryText.Question read wants_unicast) = question (question_text_of read) wants_unicast
entry_text_of (EntryText.Record section read flushes_cache) = record_in section (record_text_of read) flushes_cache

-- ---- what is read, in a message

-- this question, taken as one of a class, with its name read
pub record ReadsQuestion (message : List ℕ) (class : ℕ) (q : QuestionValue) (value : QuestionTextValue) : Type 0 where
  pub name_is : Names message q.name value.name
  pub class_is : value.class ≡ class
  pub kind_is : value.kind ≡ q.kind

-- this entry, of a message of multicast DNS or of another, with its names read, and its flag; other messages have none
abbrev pub IsEntryText : Bool → List ℕ → entries.EntryValue → EntryTextValue → Type 0
IsEntryText is_multicast message (entries.question q) value =
    (read : QuestionTextValue) × ReadsQuestion message (question_class is_multicast q.class) q read
    × (value ≡ question read (is_multicast && has_top_bit q.class))
IsEntryText is_multicast message (entries.record_in section r) value =
    (read : RecordTextValue) × IsRecordText message (record_class is_multicast r.kind r.class) r read
    × (value ≡ record_in section read (is_multicast && flushes r.kind r.class))

-- ---- what is refused

-- the name of a question is malformed; a record has no text
abbrev pub RefusesEntryText : Bool → List ℕ → entries.EntryValue → TextRefusal → Type 0
RefusesEntryText is_multicast message (entries.question q) (TextRefusal.Owner why) = RefusesName q.name message why
RefusesEntryText is_multicast message (entries.question q) _ = ⊥
RefusesEntryText is_multicast message (entries.record_in section r) why =
    RefusesText message (record_class is_multicast r.kind r.class) r why

-- ---- texts

-- the mark after the line of an entry whose flag is set
abbrev pub mark : Bool → List ℕ → List (List ℕ)
mark is_set text = if is_set then text ∷ [] else []

abbrev pub entry_text : EntryTextValue → List ℕ
entry_text (question q wants_unicast) =
    pieces (codes "question " ∷ question_text q.name q.class q.kind
    ∷ mark wants_unicast (codes " ; unicast-response"))
entry_text (record_in section r flushes_cache) =
    pieces (section_display section ∷ codes " " ∷ record_text r ∷ mark flushes_cache (codes " ; cache-flush"))
