-- The text of a name (RFC 1035 section 5.1): its labels with dots between them, and a dot alone for the root.
use Rattle.std.specs.Prelude.{◌≡◌, ◌+◌, ◌*◌, ◌<◌, ◌⊎◌, [], ◌∷◌, ◌++◌, IsFalse, IsTrue, List, ℕ, codes, flat_map}
use Rattle.std.specs.Char.{is_ascii_digit, is_ascii_graphic}
pub use Rattle.record_wire.specs.Escapes.{specials, is_in, is_special, escaped}
use Rattle.record_wire.specs.Labels.{AreOfName}
use Rattle.record_wire.specs.declared.escapes.Escaping.{Escaping}

-- ---- characters

-- A character denotes a byte: a visible one itself, unless it has a meaning of its own; any visible one but a digit,
-- after a backslash, itself; and three digits after a backslash the byte of that number.
pub data IsCharacter (byte : ℕ) (text : List ℕ) : Type 0 where
  itself : IsTrue (is_ascii_graphic byte) → IsFalse (is_special byte) → text ≡ byte ∷ [] → IsCharacter byte text
  quoted : IsTrue (is_ascii_graphic byte) → IsFalse (is_ascii_digit byte) → text ≡ 92 ∷ byte ∷ []
      → IsCharacter byte text
  numbered : (a b c : ℕ) → a < 10 → b < 10 → c < 10 → byte ≡ 100 * a + 10 * b + c → byte < 256
      → text ≡ 92 ∷ (48 + a) ∷ (48 + b) ∷ (48 + c) ∷ [] → IsCharacter byte text

-- ---- texts

-- a text is characters that denote these bytes, one after another, and then a rest
abbrev pub Spells : List ℕ → List ℕ → List ℕ → Type 0
Spells text [] rest = text ≡ rest
Spells text (byte ∷ bytes) rest =
    (character : List ℕ) × (after : List ℕ) × IsCharacter byte character × (text ≡ character ++ after)
    × Spells after bytes rest

-- a label is followed by the end, by a last dot, or by a dot and the next label
abbrev pub GoesOn : List ℕ → List (List ℕ) → Type 0
GoesOn text [] = (text ≡ []) ⊎ (text ≡ codes ".")
GoesOn text (label ∷ labels) =
    (after : List ℕ) × (rest : List ℕ) × (text ≡ codes "." ++ after) × Spells after label rest × GoesOn rest labels

-- a dot is the text of the root, which has no labels
abbrev pub IsTextOf : List (List ℕ) → List ℕ → Type 0
IsTextOf [] text = text ≡ codes "."
IsTextOf (label ∷ labels) text = (rest : List ℕ) × Spells text label rest × GoesOn rest labels

-- The grammar: this is a text of the name of these labels.
pub record IsNameText (text : List ℕ) (labels : List (List ℕ)) : Type 0 where
  pub name : AreOfName labels
  pub is : IsTextOf labels text

-- ---- the text that is written

abbrev pub character : ℕ → List ℕ
character byte = escaped Escaping.Label byte

abbrev pub label_text : List ℕ → List ℕ
label_text label = flat_map character label

-- labels, each after a dot
abbrev pub behind_dots : List (List ℕ) → List ℕ
behind_dots labels = flat_map (λ label. codes "." ++ label_text label) labels

-- the labels with dots between them
abbrev pub name_text : List (List ℕ) → List ℕ
name_text [] = codes "."
name_text (label ∷ labels) = label_text label ++ behind_dots labels
