-- Texts in a row, as they are printed.
use Rattle.std.specs.Prelude.{[], ◌∷◌, ◌++◌, Bool, List, ℕ, codes, flat_map, if◌then◌else◌, false}
use Rattle.json.specs.Print.{quoted}
use Rattle.packet_fields.specs.Fields.{by_form, comma_unless}
use Rattle.packet_fields.specs.declared.form.Form.{Form}

-- what precedes them, each of them, and what follows them
unfoldable pub texts_before : Form → List ℕ
texts_before form = by_form form [] (codes "[")

unfoldable pub text_among : Form → Bool → List ℕ → List ℕ
text_among form is_first t = comma_unless is_first ++ by_form form t (quoted t)

unfoldable pub texts_after : Form → Bool → List ℕ
texts_after form is_none = by_form form (if is_none then codes "-" else []) (codes "]")

-- texts, the first of which has no comma before it where it is the first of all; and whether the next one is the first
abbrev pub run_from : Form → Bool → List (List ℕ) → List ℕ
run_from form is_first [] = []
run_from form is_first (first ∷ rest) = text_among form is_first first ++ flat_map (text_among form false) rest

abbrev pub still_first : Bool → List (List ℕ) → Bool
still_first is_first [] = is_first
still_first is_first (first ∷ rest) = false
