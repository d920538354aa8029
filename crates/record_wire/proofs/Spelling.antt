-- The text of a label: its characters one after another, as many as there are.
use Rattle.record_wire.proofs.Words.{◌≡◌, ◌+◌, ◌≤◌, [], ◌∷◌, ◌++◌, ◌∙◌, GoesOn, IsCharacter, List, None, Some, Spells}
use Rattle.record_wire.proofs.Words.{ℕ, ap, arith, first_byte, inl, inr, length, refl, subst, sym}
use Rattle.record_wire.proofs.Characters.{first_character, character_first, same_byte}

-- one character more
pub spells_more : (label text left : List ℕ) (byte : ℕ) (rest : List ℕ) → Spells text label left
    → first_byte left ≡ Some (byte, rest) → Spells text (label ++ byte ∷ []) rest
spells_more [] text left byte rest s e =
    let b = first_character byte left rest e in (b.character, rest, b.is, s ∙ b.whole, refl)
spells_more (x ∷ label) text left byte rest (character, after, is, whole, s) e = (
  character,
  after,
  is,
  whole,
  spells_more label after left byte rest s e,
)

-- what the first character of a text says, where the text spells a byte and more
spells_first : (text : List ℕ) (byte : ℕ) (character after : List ℕ) → IsCharacter byte character
    → text ≡ character ++ after → first_byte text ≡ Some (byte, after)
spells_first text byte character after is whole = ap first_byte whole ∙ character_first byte character after is

-- one label is spelled by as many characters as there are
pub spelling_one : (label others text left rest : List ℕ) → Spells text label left → first_byte left ≡ None
    → Spells text others rest → first_byte rest ≡ None → (others ≡ label) × (rest ≡ left)
spelling_one [] [] text left rest s e t f = (refl, sym t ∙ s)
spelling_one [] (o ∷ others) text left rest s e (character, after, is, whole, t) f =
    let some = spells_first text o character after is whole in
    let none = ap first_byte s ∙ e in
    cc (some, none)
spelling_one (b ∷ label) [] text left rest (character, after, is, whole, s) e t f =
    let some = spells_first text b character after is whole in
    let none = ap first_byte t ∙ f in
    cc (some, none)
spelling_one (b ∷ label) (o ∷ others) text left rest (character, after, is, whole, s) e
    (other, behind, is_other, whole_other, t) f =
    let p = same_byte b o after behind
    (sym (spells_first text b character after is whole) ∙ spells_first text o other behind is_other whole_other) in
    let q = spelling_one label others after left rest s e (subst (λ x. Spells x others rest) (sym p.1) t) f in
    (ap (λ x. x ∷ others) (sym p.0) ∙ ap (λ xs. b ∷ xs) q.0, q.1)

-- a spelling with a character after it is a part of a longer one
pub spelling_longer : (label others text left : List ℕ) (byte : ℕ) (after rest : List ℕ) → Spells text label left
    → first_byte left ≡ Some (byte, after) → Spells text others rest → first_byte rest ≡ None
    → length label + 1 ≤ length others
spelling_longer [] [] text left byte after rest s e t f =
    let some = ap first_byte s ∙ e in
    let none = ap first_byte t ∙ f in
    cc (some, none)
spelling_longer [] (o ∷ others) text left byte after rest s e t f = omega arith
spelling_longer (b ∷ label) [] text left byte after rest (character, behind, is, whole, s) e t f =
    let some = spells_first text b character behind is whole in
    let none = ap first_byte t ∙ f in
    cc (some, none)
spelling_longer (b ∷ label) (o ∷ others) text left byte after rest (character, behind, is, whole, s) e
    (other, behind_other, is_other, whole_other, t) f =
    let p = same_byte b o behind behind_other
    (sym (spells_first text b character behind is whole)
    ∙ spells_first text o other behind_other is_other whole_other) in
    let q = spelling_longer label others behind left byte after rest s e
    (subst (λ x. Spells x others rest) (sym p.1) t) f in
    omega (arith, q)

-- no character begins with a dot, so a label ends there
pub goes_on_none : (text : List ℕ) (labels : List (List ℕ)) → GoesOn text labels → first_byte text ≡ None
goes_on_none text [] (inl e) = ap first_byte e
goes_on_none text [] (inr e) = ap first_byte e
goes_on_none text (label ∷ labels) (after, rest, e, s, more) = ap first_byte e
