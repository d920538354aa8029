-- Why texts of names are refused: the check that fails first.
use Rattle.std.specs.Prelude.{◌≡◌, ◌≢◌, ◌<◌, ◌≤◌, [], ◌∷◌, ◌++◌, List, ℕ, codes, decimal, length}
use Rattle.std.specs.List.{AllByRecursion}
use Rattle.record_wire.specs.Words.{IsLabel, pieces}
use Rattle.record_wire.specs.Labels.{wire}
use Rattle.record_wire.specs.NameText.{IsCharacter, Spells, IsNameText}
use Rattle.record_wire.specs.declared.name.text_refusal.NameTextRefusal.{NameTextRefusal}

-- a text is these labels, each with a dot after it, followed by more
abbrev pub Leads : List ℕ → List (List ℕ) → List ℕ → Type 0
Leads text [] left = text ≡ left
Leads text (label ∷ labels) left =
    (rest : List ℕ) × (after : List ℕ) × Spells text label rest × (rest ≡ codes "." ++ after)
    × (1 ≤ length after) × Leads after labels left

-- a text is whole labels with dots after them, the characters of one more label, and a rest
pub record IsReadTo (text rest : List ℕ) : Type 0 where
  pub done : List (List ℕ)
  pub each : AllByRecursion IsLabel done
  pub left : List ℕ
  pub leads : Leads text done left
  pub label : List ℕ
  pub spells : Spells left label rest

-- the text does not begin with a character
abbrev pub BeginsWithNone : List ℕ → Type 0
BeginsWithNone text = (byte : ℕ) (character rest : List ℕ) → IsCharacter byte character
    → text ≡ character ++ rest → ⊥

-- the end of a text, or a dot
abbrev pub IsLabelEnd : List ℕ → Type 0
IsLabelEnd [] = Unit {0}
IsLabelEnd (byte ∷ rest) = byte ≡ 46

-- the rest of a text that does not begin with a character: the end or a dot, a backslash, or another byte
abbrev pub RefusesRest : List ℕ → NameTextRefusal → Type 0
RefusesRest rest NameTextRefusal.EmptyLabel = IsLabelEnd rest
RefusesRest rest NameTextRefusal.Escape = (more : List ℕ) × (rest ≡ 92 ∷ more) × BeginsWithNone rest
RefusesRest rest (NameTextRefusal.Byte byte) =
    (more : List ℕ) × (rest ≡ byte ∷ more) × (byte ≢ 46) × (byte ≢ 92) × BeginsWithNone rest
RefusesRest rest _ = ⊥

-- A label has no characters, and the text is not a dot alone; it has too many; with it the name has too many octets; it
-- is followed by a backslash or another byte that begins no character.
abbrev pub RefusesText : List ℕ → NameTextRefusal → Type 0
RefusesText text NameTextRefusal.EmptyLabel =
    (rest : List ℕ) × (read : IsReadTo text rest) × (read.label ≡ []) × IsLabelEnd rest × (text ≢ codes ".")
RefusesText text NameTextRefusal.LongLabel = (rest : List ℕ) × (read : IsReadTo text rest) × (63 < length read.label)
RefusesText text NameTextRefusal.TooLong =
    (rest : List ℕ) × (read : IsReadTo text rest) × (255 < length (wire (read.done ++ read.label ∷ [])))
RefusesText text NameTextRefusal.Escape = (rest : List ℕ) × IsReadTo text rest × RefusesRest rest NameTextRefusal.Escape
RefusesText text (NameTextRefusal.Byte byte) = (rest : List ℕ) × IsReadTo text rest
    × RefusesRest rest (NameTextRefusal.Byte byte)

-- the text of a name
abbrev pub IsText : List ℕ → Type 0
IsText text = (labels : List (List ℕ)) × IsNameText text labels

abbrev pub text_refusal_display : NameTextRefusal → List ℕ
text_refusal_display NameTextRefusal.EmptyLabel = codes "a label is empty"
text_refusal_display NameTextRefusal.LongLabel = codes "a label has more than 63 bytes"
text_refusal_display NameTextRefusal.TooLong = codes "the name has more than 255 octets"
text_refusal_display NameTextRefusal.Escape = codes "a backslash stands before no character that it quotes"
text_refusal_display (NameTextRefusal.Byte byte) =
    pieces (codes "byte " ∷ decimal byte ∷ codes " does not stand for itself" ∷ [])
