-- The parts of a message's listing, as they are printed: the results of private functions.
use Rattle.std.specs.Prelude.{◌≡◌, [], ◌∷◌, ◌++◌, Bool, List, Option, Some, ℕ, codes, flat_map}
use Rattle.record_wire.specs.Entries.{Left, RefusesEntry, all_of, section_at}
use Rattle.record_wire.specs.declared.refusal.Refusal.{Refusal}
use Rattle.packet_fields.specs.Fields.{Cell, Entry, Fits, Item, Leaf, entries, first_text, leaf_text, text}
use Rattle.packet_fields.specs.Output.{Gains}
use Rattle.packet_fields.specs.Prints.{PrintsCells}
use Rattle.packet_fields.specs.declared.form.Form.{Form}
use Rattle.dns_fields.specs.Message.{EntriesAre, broken_entry}
use Rattle.packet_fields.specs.Entries.{PrintsEntry}
use Rattle.dns_fields.specs.declared.kind.Kind.{Kind}
use Rattle.dns_fields.specs.declared.unread.Unread.{Unread}

-- the first value of an entry was printed, and others behind it
pub record PrintsFront (form : Form) (old new : Option (List ℕ)) (key : List ℕ) (first : Leaf) (others : List Cell)
    : Type 0 where
  pub between : Option (List ℕ)
  pub fits : Fits first
  pub gains : Gains old between (first_text form key first)
  pub prints : PrintsCells form between new others

-- values of this kind
abbrev pub PrintsSomeFront : Form → Option (List ℕ) → Option (List ℕ) → List ℕ → (Leaf → List Cell → Type 0) → Type 0
PrintsSomeFront form old new key Are =
    (first : Leaf) × (others : List Cell) × Are first others × PrintsFront form old new key first others

-- the list of the entries of a message
abbrev pub ListIs : Kind → List ℕ → List Item → Option Unread → Type 0
ListIs kind message items unread =
    (es : List Entry) × EntriesAre kind message (all_of message) es unread
    × (items ≡ entries (codes "entries") es ∷ [])

-- the next entry is refused, for this reason
abbrev pub PrintsBroken : Form → Bool → Left → Option (List ℕ) → Option (List ℕ) → Option Unread → Type 0
PrintsBroken form is_first left old new unread =
    (why : Refusal) × (unread ≡ Some (Unread.Entry (section_at left.ends left.taken) why))
    × RefusesEntry (section_at left.ends left.taken) left.bytes why
    × PrintsEntry form is_first old new (broken_entry (section_at left.ends left.taken) why left.bytes)

-- texts, each after a comma
abbrev pub behind_commas : Form → List (List ℕ) → List ℕ
behind_commas form those = flat_map (λ next. codes "," ++ leaf_text form (text next)) those
