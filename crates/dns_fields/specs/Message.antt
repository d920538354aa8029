-- The fields of a whole message (RFC 1035 section 4.1): those of its header, and a list of its questions and records.
use Rattle.std.specs.Prelude.{◌≡◌, ◌<◌, [], ◌∷◌, ◌++◌, Bool, List, None, Option, Some, ℕ, codes, false, length, true}
use Rattle.wirebase.specs.Bytes.{Reaches}
use Rattle.dns_wire.specs.DnsPacket.{header}
use Rattle.record_wire.specs.Entries.{EntryValue, IsBroken, IsNext, Left, RefusesEntry, all_of, section_at}
use Rattle.record_wire.specs.Entries as entry
use Rattle.record_wire.specs.Multicast.{is_opt}
use Rattle.record_wire.specs.Record.{RecordValue}
use Rattle.record_wire.specs.declared.entries.Section.{Section}
use Rattle.record_wire.specs.declared.refusal.Refusal.{Refusal}
use Rattle.packet_fields.specs.Fields.{Entry, Item, entries, field, octets, text}
use Rattle.dns_fields.specs.Edns.{OptIs}
use Rattle.dns_fields.specs.Header.{header_items}
use Rattle.dns_fields.specs.Kind.{is_netbios}
use Rattle.dns_fields.specs.Nbns as nbns
use Rattle.dns_fields.specs.Record.{BlankIs, QuestionIs, RecordIs, is_blank, nameless_entry, shown_keyed}
use Rattle.dns_fields.specs.Unread.{first_of, why_text}
use Rattle.dns_fields.specs.declared.kind.Kind.{Kind}
use Rattle.dns_fields.specs.declared.unread.Unread.{Unread}

-- ---- questions and records

-- a record of the NetBIOS name service, an OPT record, a record without data of an inverse query, or any other
abbrev pub AnyRecordIs : Bool → Bool → Bool → Kind → List ℕ → Section → RecordValue → Entry → Option Unread → Type 0
AnyRecordIs true opt blank kind message section r e unread = nbns.RecordIs message section r e unread
AnyRecordIs false true blank kind message section r e unread = OptIs kind message section r e unread
AnyRecordIs false false true kind message section r e unread = BlankIs kind message section r e unread
AnyRecordIs false false false kind message section r e unread = RecordIs kind message section r e unread

abbrev pub RecordInIs : Kind → List ℕ → Section → RecordValue → Entry → Option Unread → Type 0
RecordInIs kind message section r e unread =
    AnyRecordIs (is_netbios kind) (is_opt r.kind) (is_blank message section r) kind message section r e unread

abbrev pub EntryIs : Kind → List ℕ → EntryValue → Entry → Option Unread → Type 0
EntryIs kind message (entry.question q) e unread = QuestionIs kind message q e unread
EntryIs kind message (entry.record_in section r) e unread = RecordInIs kind message section r e unread

-- the octets at which the next question or record does not begin
abbrev pub broken_entry : Section → Refusal → List ℕ → Entry
broken_entry section why bytes =
    nameless_entry section (shown_keyed (codes "octets") (octets bytes) ∷ []) (Unread.Entry section why)

-- The entries that are left, and the first refusal among them: one for each question and record, also for those that
-- can't be read, and where the next one does not begin a last one that says why.
pub data EntriesAre (kind : Kind) (message : List ℕ) : Left → List Entry → Option Unread → Type 0 where
  none_left : (left : Left) → left.taken ≡ left.ends.all → EntriesAre kind message left [] None
  none_begins : (left after : Left) (why : Refusal) → IsBroken left after
      → RefusesEntry (section_at left.ends left.taken) left.bytes why
      → EntriesAre kind message left (broken_entry (section_at left.ends left.taken) why left.bytes ∷ [])
      (Some (Unread.Entry (section_at left.ends left.taken) why))
  begins : (left after : Left) (value : EntryValue) (e : Entry) (more : List Entry) (unread later : Option Unread)
      → IsNext left value after → EntryIs kind message value e unread
      → EntriesAre kind message after more later
      → EntriesAre kind message left (e ∷ more) (first_of unread later)

-- ---- the message

-- what there is where it is too short for a header
abbrev pub no_header_items : List ℕ → List Item
no_header_items bytes =
    field (codes "refused") (text (why_text Unread.Header)) ∷ field (codes "octets") (octets bytes) ∷ []

-- A message has the fields of its header and its entries, or is too short for a header.
pub data MessageIs (kind : Kind) (bytes : List ℕ) : List Item → Option Unread → Type 0 where
  has_header : (es : List Entry) (unread : Option Unread) → Reaches header bytes
      → EntriesAre kind bytes (all_of bytes) es unread
      → MessageIs kind bytes (header_items kind bytes ++ (entries (codes "entries") es ∷ [])) unread
  has_no_header : length bytes < 12 → MessageIs kind bytes (no_header_items bytes) (Some Unread.Header)
