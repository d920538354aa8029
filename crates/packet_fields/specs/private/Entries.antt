-- What printing several entries leaves, or one of a kind.
use Rattle.std.specs.Prelude.{Bool, List, Option, ℕ}
use Rattle.packet_fields.specs.Output.{Gains}
use Rattle.packet_fields.specs.Entries.{PrintsEntry}
use Rattle.packet_fields.specs.Fields.{EntriesFit, Entry, entries_text}
use Rattle.packet_fields.specs.declared.form.Form.{Form}

-- these entries were printed, from the first of their list on
pub record PrintsEntries (form : Form) (old new : Option (List ℕ)) (es : List Entry) : Type 0 where
  pub gains : Gains old new (entries_text form es)
  pub fit : EntriesFit es

-- an entry of this kind was printed, and entries of this kind
abbrev pub PrintsSomeEntry : Form → Bool → Option (List ℕ) → Option (List ℕ) → (Entry → Type 0) → Type 0
PrintsSomeEntry form is_first old new IsEntry = (e : Entry) × IsEntry e × PrintsEntry form is_first old new e

abbrev pub PrintsSomeEntries : Form → Option (List ℕ) → Option (List ℕ) → (List Entry → Type 0) → Type 0
PrintsSomeEntries form old new AreEntries = (es : List Entry) × AreEntries es × PrintsEntries form old new es
