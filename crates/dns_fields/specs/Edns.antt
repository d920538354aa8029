-- The entry of an OPT record (RFC 6891 section 6.1): what it says of its sender, and options.
use Rattle.std.specs.Prelude.{◌%◌, ◌==◌, [], ◌∷◌, ◌++◌, Bool, Err, List, None, Ok, Option, Some, ℕ, codes}
use Rattle.std.specs.Prelude.{if◌then◌else◌}
use Rattle.wirebase.specs.Hexadecimal.{encode_lower}
use Rattle.dns_wire.specs.DnsDisplay.{name_in, name_or}
use Rattle.record_wire.specs.Edns.{EdnsValue, IsEdns, OptionValue, Answer, Tile}
use Rattle.record_wire.specs.NameRefusal.{RefusesName}
use Rattle.record_wire.specs.Names.{Names}
use Rattle.record_wire.specs.Record.{RecordValue}
use Rattle.record_wire.specs.RecordDisplay.{option_names}
use Rattle.record_wire.specs.declared.entries.Section.{Section}
use Rattle.record_wire.specs.declared.name.refusal.NameRefusal.{NameRefusal}
use Rattle.record_wire.specs.declared.text.refusal.TextRefusal.{TextRefusal}
use Rattle.packet_fields.specs.Fields.{Cell, Entry, number, octets, text, texts}
use Rattle.dns_fields.specs.Kind.{type_text}
use Rattle.dns_fields.specs.declared.kind.Kind.{Kind}
use Rattle.dns_fields.specs.Record.{IsRefusedRecord, named_entry, refused_cells, shown_bare, shown_keyed}
use Rattle.dns_fields.specs.declared.unread.Unread.{Unread}

-- ---- options

-- an option: its name, or its number where it has none, and its data
abbrev pub option_text : OptionValue → List ℕ
option_text option =
    name_or [] (name_in option_names option.code) option.code ++ (codes ":" ++ encode_lower option.«data»)

-- the options that are read, up to one that is cut
abbrev pub option_texts : List Answer → List (List ℕ)
option_texts [] = []
option_texts (Ok option ∷ answers) = option_text option ∷ option_texts answers
option_texts (Err why ∷ answers) = []

-- why an option is cut; None where all are whole
abbrev pub unread_option : List Answer → Option Unread
unread_option [] = None
unread_option (Ok option ∷ answers) = unread_option answers
unread_option (Err why ∷ answers) = Some (Unread.Option why)

-- ---- the entry

-- whether DNSSEC is taken, by its name
abbrev pub edns_flags : Bool → List (List ℕ)
edns_flags dnssec_ok = if dnssec_ok then codes "do" ∷ [] else []

-- the flags that are reserved, where some are set
abbrev pub reserved_flags : ℕ → List Cell
reserved_flags bits = if bits == 0 then [] else shown_keyed (codes "reserved_flags") (number bits) ∷ []

-- where an option is cut: all octets of the data, and why
abbrev pub cut_cells : Option Unread → List ℕ → List Cell
cut_cells None bytes = []
cut_cells (Some why) bytes = shown_keyed (codes "octets") (octets bytes) ∷ refused_cells why

-- the size of the sender's UDP payloads, the upper bits of the response code, the version and flags
abbrev pub sender_cells : EdnsValue → List Cell
sender_cells edns =
    shown_keyed (codes "udp_size") (number edns.payload_size)
    ∷ shown_keyed (codes "extended_rcode") (number edns.extended_rcode)
    ∷ shown_keyed (codes "version") (number edns.version)
    ∷ shown_keyed (codes "flags") (texts (edns_flags edns.dnssec_ok)) ∷ []

abbrev pub opt_entry : Kind → Section → RecordValue → List (List ℕ) → EdnsValue → List Answer → Entry
opt_entry kind section r labels edns answers =
    named_entry kind section labels
    (shown_bare (codes "type") (text (type_text kind r.kind)) ∷ (sender_cells edns
    ++ (shown_keyed (codes "options") (texts (option_texts answers)) ∷ [])
    ++ reserved_flags (edns.flags % 0x8000) ++ cut_cells (unread_option answers) r.«data»))

-- An OPT record, which says this, is its entry where its name reads, with the options up to one that is cut, and else
-- one that is refused.
pub data OptIs (kind : Kind) (message : List ℕ) (section : Section) (r : RecordValue)
    : Entry → Option Unread → Type 0 where
  says : (edns : EdnsValue) (answers : List Answer) (labels : List (List ℕ)) → IsEdns r edns
      → Names message r.name labels → Tile edns.options answers
      → OptIs kind message section r (opt_entry kind section r labels edns answers) (unread_option answers)
  says_for_no_name : (why : NameRefusal) → ((labels : List (List ℕ)) → Names message r.name labels → ⊥)
      → RefusesName r.name message why → (e : Entry)
      → IsRefusedRecord kind message section r (Unread.Record (TextRefusal.Owner why)) e
      → OptIs kind message section r e (Some (Unread.Record (TextRefusal.Owner why)))
