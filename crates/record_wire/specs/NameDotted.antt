-- Names whose text has no backslash: their labels are in it as they are, each before a dot.
use Rattle.std.specs.Prelude.{◌≡◌, ◌==◌, ◌||◌, [], ◌∷◌, ◌++◌, Bool, List, ℕ, codes, flat_map, true}
use Rattle.std.specs.Char.{is_ascii_alphanumeric}
use Rattle.std.specs.List.{list_all}
use Rattle.record_wire.specs.Names.{Names}

-- the bytes that names have in practice: letters, digits, `-` and `_`
abbrev pub is_usual : ℕ → Bool
is_usual byte = is_ascii_alphanumeric byte || byte == 45 || byte == 95

abbrev pub is_usual_label : List ℕ → Bool
is_usual_label label = list_all is_usual label

abbrev pub are_usual : List (List ℕ) → Bool
are_usual labels = list_all is_usual_label labels

-- labels, each before a dot
abbrev pub dotted : List (List ℕ) → List ℕ
dotted labels = flat_map (λ label. label ++ codes ".") labels

-- the text of such labels; the root, which has none, is a dot
abbrev pub dotted_text : List (List ℕ) → List ℕ
dotted_text [] = codes "."
dotted_text (label ∷ labels) = dotted (label ∷ labels)

-- The name that begins in a text and may go on in a message has these labels, all of such bytes alone.
pub record AreUsual (text message : List ℕ) (labels : List (List ℕ)) : Type 0 where
  pub names : Names message text labels
  pub usual : are_usual labels ≡ true
