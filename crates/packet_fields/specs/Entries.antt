-- What printing entries leaves.
use Rattle.std.specs.Prelude.{[], ◌∷◌, ◌++◌, Bool, List, None, Option, Some, ℕ, codes}
use Rattle.packet_fields.specs.Output.{Gains}
use Rattle.packet_fields.specs.Fields.{Cell, EntriesFit, Entry, Leaf, entry_text, hidden, keyed, number}
use Rattle.packet_fields.specs.Fields.{octets, text}
use Rattle.packet_fields.specs.declared.form.Form.{Form}

-- an output that held `old` holds `new`: this entry was printed, the first of its list or another
pub record PrintsEntry (form : Form) (is_first : Bool) (old new : Option (List ℕ)) (e : Entry) : Type 0 where
  pub gains : Gains old new (entry_text form is_first e)
  pub fits : EntriesFit (e ∷ [])

-- a further value that lines show with its key, and a number that JSON alone has
abbrev pub keyed_value : List ℕ → Leaf → List Cell
keyed_value key value = record { key = key; value = value; shown = keyed } ∷ []

abbrev pub hidden_value : List ℕ → ℕ → List Cell
hidden_value key n = record { key = key; value = number n; shown = hidden } ∷ []

-- why an entry is refused, where it is
abbrev pub refused_cells : Option (List ℕ) → List Cell
refused_cells None = []
refused_cells (Some why) = keyed_value (codes "refused") (text why)

-- an entry whose octets are not told apart: its label, octets, why it is refused where it is, and its number
abbrev pub octets_entry : List ℕ → List ℕ → List ℕ → Option (List ℕ) → ℕ → Entry
octets_entry label_key label d refused n = record {
  label_key = label_key;
  label = label;
  first_key = codes "data";
  first = octets d;
  rest = refused_cells refused ++ hidden_value (codes "type") n;
}
