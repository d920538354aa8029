-- The entries of questions and records: what a zone file has of each (RFC 1035 section 5.1), or why it can't be read.
use Rattle.std.specs.Prelude.{◌≡◌, ◌&&◌, [], ◌∷◌, ◌++◌, Bool, List, None, Option, Some, ℕ, codes, if◌then◌else◌}
use Rattle.std.specs.Prelude.{◌==◌, false, length, nat_lt, true}
use Rattle.dns_wire.specs.DnsPacket.{opcode_in}
use Rattle.record_wire.specs.Mnemonics.{class_text}
use Rattle.record_wire.specs.Multicast.{has_top_bit, flushes, question_class, record_class}
use Rattle.record_wire.specs.NameRefusal.{HasName, RefusesName}
use Rattle.record_wire.specs.Names.{Names}
use Rattle.record_wire.specs.Record.{QuestionValue, RecordValue}
use Rattle.record_wire.specs.RecordDisplay.{section_display}
use Rattle.record_wire.specs.RecordText.{RecordTextValue, IsRecordText, RefusesText, data_text, other}
use Rattle.record_wire.specs.declared.entries.Section.{Section}
use Rattle.record_wire.specs.declared.name.refusal.NameRefusal.{NameRefusal}
use Rattle.record_wire.specs.declared.text.refusal.TextRefusal.{TextRefusal}
use Rattle.packet_fields.specs.Fields.{Cell, Entry, Leaf, bare, keyed, missing, number, octets, text, truth}
use Rattle.dns_fields.specs.Header.{word_in}
use Rattle.dns_fields.specs.Kind.{is_multicast, name_text, type_text}
use Rattle.dns_fields.specs.declared.kind.Kind.{Kind}
use Rattle.dns_fields.specs.Unread.{why_text}
use Rattle.dns_fields.specs.declared.unread.Unread.{Unread}

-- ---- the parts of entries

abbrev pub shown_bare : List ℕ → Leaf → Cell
shown_bare key value = record { key = key; value = value; shown = bare }

abbrev pub shown_keyed : List ℕ → Leaf → Cell
shown_keyed key value = record { key = key; value = value; shown = keyed }

-- an entry of a section
abbrev pub section_entry : Section → List ℕ → Leaf → List Cell → Entry
section_entry section key first rest = record {
  label_key = codes "section";
  label = section_display section;
  first_key = key;
  first = first;
  rest = rest;
}

-- an entry that begins with a name
abbrev pub named_entry : Kind → Section → List (List ℕ) → List Cell → Entry
named_entry kind section labels rest = section_entry section (codes "name") (text (name_text kind labels)) rest

-- why an entry can't be read, or not to its end; it stands last
abbrev pub refused_cells : Unread → List Cell
refused_cells why = shown_keyed (codes "refused") (text (why_text why)) ∷ []

-- an entry whose name can't be read: what is known of it, and why
abbrev pub nameless_entry : Section → List Cell → Unread → Entry
nameless_entry section known why = section_entry section (codes "name") missing (known ++ refused_cells why)

-- what is said where a flag is set
abbrev pub mark : Bool → List ℕ → List Cell
mark is_set key = if is_set then shown_keyed key (truth true) ∷ [] else []

-- ---- questions

abbrev pub question_mark : Kind → QuestionValue → List Cell
question_mark kind q = mark (is_multicast kind && has_top_bit q.class) (codes "unicast_response")

abbrev pub question_entry : Kind → QuestionValue → List (List ℕ) → Entry
question_entry kind q labels =
    named_entry kind Section.Question labels
    (shown_bare (codes "class") (text (class_text (question_class (is_multicast kind) q.class)))
    ∷ shown_bare (codes "type") (text (type_text kind q.kind)) ∷ question_mark kind q)

-- with the octets of its name
abbrev pub refused_question : Kind → QuestionValue → Unread → Entry
refused_question kind q why =
    nameless_entry Section.Question
    (shown_keyed (codes "name_octets") (octets q.name)
    ∷ shown_keyed (codes "class") (text (class_text (question_class (is_multicast kind) q.class)))
    ∷ shown_keyed (codes "type") (text (type_text kind q.kind)) ∷ question_mark kind q) why

-- A question is an entry with its name where this reads, and else one that is refused.
pub data QuestionIs (kind : Kind) (message : List ℕ) (q : QuestionValue) : Entry → Option Unread → Type 0 where
  asks : (labels : List (List ℕ)) → Names message q.name labels
      → QuestionIs kind message q (question_entry kind q labels) None
  asks_of_no_name : (why : NameRefusal) → ((labels : List (List ℕ)) → Names message q.name labels → ⊥)
      → RefusesName q.name message why
      → QuestionIs kind message q (refused_question kind q (Unread.Question why))
      (Some (Unread.Question why))

-- ---- records; the time to live is in seconds

abbrev pub is_marked : Kind → RecordValue → Bool
is_marked kind r = is_multicast kind && flushes r.kind r.class

-- a record with its names read, and whether caches are to drop what they have
abbrev pub record_entry : Kind → Section → RecordTextValue → Bool → Entry
record_entry kind section value flushes_cache =
    named_entry kind section value.name
    (shown_bare (codes "ttl") (number value.ttl) ∷ shown_bare (codes "class") (text (class_text value.class))
    ∷ shown_bare (codes "type") (text (type_text kind value.kind))
    ∷ shown_bare (codes "data") (text (data_text value.«data»)) ∷ mark flushes_cache (codes "cache_flush"))

-- the name of a record that is refused; where it can't be read none, and its octets
pub data OwnerIs (kind : Kind) (message bytes : List ℕ) : Leaf → List Cell → Type 0 where
  reads : (labels : List (List ℕ)) → Names message bytes labels
      → OwnerIs kind message bytes (text (name_text kind labels)) []
  reads_not : (HasName bytes message → ⊥)
      → OwnerIs kind message bytes missing (shown_keyed (codes "name_octets") (octets bytes) ∷ [])

-- what is known of a record but for its name
abbrev pub known_cells : Kind → RecordValue → List Cell
known_cells kind r =
    shown_keyed (codes "ttl") (number r.ttl)
    ∷ shown_keyed (codes "class") (text (class_text (record_class (is_multicast kind) r.kind r.class)))
    ∷ shown_keyed (codes "type") (text (type_text kind r.kind)) ∷ shown_keyed (codes "octets") (octets r.«data»)
    ∷ mark (is_marked kind r) (codes "cache_flush")

-- such a record, for this reason
abbrev pub IsRefusedRecord : Kind → List ℕ → Section → RecordValue → Unread → Entry → Type 0
IsRefusedRecord kind message section r why e =
    (name : Leaf) × (owner : List Cell) × OwnerIs kind message r.name name owner
    × (e ≡ section_entry section (codes "name") name (owner ++ known_cells kind r ++ refused_cells why))

-- A record, whose class in multicast DNS is without its top bit, is the entry of its line in a zone file where all of
-- it reads, and else one that is refused.
pub data RecordIs (kind : Kind) (message : List ℕ) (section : Section) (r : RecordValue)
    : Entry → Option Unread → Type 0 where
  has : (value : RecordTextValue) → IsRecordText message (record_class (is_multicast kind) r.kind r.class) r value
      → RecordIs kind message section r (record_entry kind section value (is_marked kind r)) None
  has_no_text : (why : TextRefusal) (e : Entry)
      → ((value : RecordTextValue) → IsRecordText message (record_class (is_multicast kind) r.kind r.class) r value → ⊥)
      → RefusesText message (record_class (is_multicast kind) r.kind r.class) r why
      → IsRefusedRecord kind message section r (Unread.Record why) e
      → RecordIs kind message section r e (Some (Unread.Record why))

-- ---- records of inverse queries (RFC 1035 section 6.4)

-- a query, of which the flag QR is clear, and of the kind that is inverse
abbrev pub is_inverse_query : ℕ → Bool
is_inverse_query word = nat_lt word 0x8000 && (opcode_in word == 1)

abbrev pub is_answer : Section → Bool
is_answer Section.Answer = true
is_answer _ = false

-- The record that stands for the answer, which asks for its name; it has no data.
abbrev pub is_blank : List ℕ → Section → RecordValue → Bool
is_blank message section r = is_inverse_query (word_in message) && (is_answer section && (length r.«data» == 0))

-- no data, whatever the type
abbrev pub blank_text : Kind → RecordValue → List (List ℕ) → RecordTextValue
blank_text kind r labels = record {
  name = labels;
  ttl = r.ttl;
  class = record_class (is_multicast kind) r.kind r.class;
  kind = r.kind;
  «data» = other [];
}

-- Such a record is the entry of its line in a zone file where its name reads, and else one that is refused.
pub data BlankIs (kind : Kind) (message : List ℕ) (section : Section) (r : RecordValue)
    : Entry → Option Unread → Type 0 where
  is_of : (labels : List (List ℕ)) → Names message r.name labels
      → BlankIs kind message section r
      (record_entry kind section (blank_text kind r labels) (is_marked kind r)) None
  is_of_no_name : (why : NameRefusal) (e : Entry) → (HasName r.name message → ⊥) → RefusesName r.name message why
      → IsRefusedRecord kind message section r (Unread.Record (TextRefusal.Owner why)) e
      → BlankIs kind message section r e (Some (Unread.Record (TextRefusal.Owner why)))
