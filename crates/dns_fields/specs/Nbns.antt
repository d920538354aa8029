-- The entries of records of the NetBIOS name service (RFC 1002 section 4.2).
use Rattle.std.specs.Prelude.{◌*◌, ◌%◌, ◌==◌, [], ◌∷◌, ◌++◌, List, None, Option, Some, ℕ, codes, drop}
use Rattle.std.specs.Prelude.{if◌then◌else◌, length, nat_le, slice_index, take}
use Rattle.dns_wire.specs.DnsPacket.{opcode_in}
use Rattle.dns_wire.specs.DnsTables.{type_number}
use Rattle.record_wire.specs.Mnemonics.{class_text}
use Rattle.record_wire.specs.NameRefusal.{HasName, RefusesName}
use Rattle.record_wire.specs.Names.{Names}
use Rattle.record_wire.specs.Record.{RecordValue}
use Rattle.record_wire.specs.ZoneText.{generic_text}
use Rattle.record_wire.specs.declared.entries.Section.{Section}
use Rattle.record_wire.specs.declared.name.refusal.NameRefusal.{NameRefusal}
use Rattle.record_wire.specs.declared.text.refusal.TextRefusal.{TextRefusal}
use Rattle.packet_fields.specs.Fields.{Cell, Entry, number, octets, text, texts}
use Rattle.dns_fields.specs.Edns.{cut_cells}
use Rattle.dns_fields.specs.Header.{word_in}
use Rattle.dns_fields.specs.Kind.{type_text}
use Rattle.dns_fields.specs.Node.{part_texts}
use Rattle.dns_fields.specs.Record.{IsRefusedRecord, named_entry, shown_bare, shown_keyed}
use Rattle.dns_fields.specs.declared.kind.Kind.{Kind}
use Rattle.dns_fields.specs.declared.nbns.Layout.{Layout}
use Rattle.dns_fields.specs.declared.node.Part.{Part}
use Rattle.dns_fields.specs.declared.unread.Unread.{Unread}

-- ---- how data are laid out

abbrev pub by_type : ℕ → Layout
by_type n = if n == 32 then Layout.Addresses else if n == 33 then Layout.Names else Layout.Octets

-- in a message that tells to wait they are the flags of a request (RFC 1002 section 4.2.16)
abbrev pub layout_of : ℕ → RecordValue → Layout
layout_of word r = if opcode_in word == 7 then Layout.Octets else by_type (type_number r.kind)

-- ---- names and statistics (RFC 1002 section 4.2.18): a number of names, 18 octets each, and then the statistics

abbrev pub names_len : List ℕ → ℕ
names_len bytes = 18 * slice_index bytes 0

abbrev pub names_in : List ℕ → List ℕ
names_in bytes = take (names_len bytes) (drop 1 bytes)

abbrev pub behind_names : List ℕ → List ℕ
behind_names bytes = drop (names_len bytes) (drop 1 bytes)

abbrev pub names_cells : List ℕ → List Cell
names_cells bytes =
    shown_bare (codes "data") (texts (part_texts Part.Name (names_in bytes)))
    ∷ shown_keyed (codes "statistics") (octets (behind_names bytes)) ∷ []

-- ---- entries

abbrev pub data_cells : Layout → List ℕ → List Cell
data_cells Layout.Addresses bytes = shown_bare (codes "data") (texts (part_texts Part.Address bytes)) ∷ []
data_cells Layout.Names bytes = names_cells bytes
data_cells Layout.Octets bytes = shown_bare (codes "data") (text (generic_text bytes)) ∷ []

-- what is cut: an address, or the names
abbrev pub unread_data : Layout → List ℕ → Option Unread
unread_data Layout.Addresses bytes = if length bytes % 6 == 0 then None else Some Unread.Addresses
unread_data Layout.Names bytes = if nat_le (length bytes) (names_len bytes) then Some Unread.Names else None
unread_data Layout.Octets bytes = None

abbrev pub record_entry : Section → RecordValue → List (List ℕ) → Layout → Entry
record_entry section r labels layout =
    named_entry Kind.Nbns section labels
    (shown_bare (codes "ttl") (number r.ttl) ∷ shown_bare (codes "class") (text (class_text r.class))
    ∷ shown_bare (codes "type") (text (type_text Kind.Nbns r.kind))
    ∷ (data_cells layout r.«data» ++ cut_cells (unread_data layout r.«data») r.«data»))

-- A record is an entry with its name where this reads, and its data as far as they go, and else one that is refused.
pub data RecordIs (message : List ℕ) (section : Section) (r : RecordValue) : Entry → Option Unread → Type 0 where
  has : (labels : List (List ℕ)) → Names message r.name labels
      → RecordIs message section r (record_entry section r labels (layout_of (word_in message) r))
      (unread_data (layout_of (word_in message) r) r.«data»)
  has_no_name : (why : NameRefusal) (e : Entry) → (HasName r.name message → ⊥) → RefusesName r.name message why
      → IsRefusedRecord Kind.Nbns message section r (Unread.Record (TextRefusal.Owner why)) e
      → RecordIs message section r e (Some (Unread.Record (TextRefusal.Owner why)))
