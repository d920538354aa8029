-- The text that a name is written as is a text of that name.
use Rattle.record_wire.proofs.Words.{◌≡◌, ◌+◌, ◌*◌, ◌/◌, ◌%◌, ◌<◌, ◌&&◌, ◌||◌, [], ◌∷◌, ◌++◌, ◌∙◌, AllByRecursion}
use Rattle.record_wire.proofs.Words.{AreOfName, Bool, GoesOn, IsCharacter, IsNameText, IsTextOf, List, Spells, ℕ, ap}
use Rattle.record_wire.proofs.Words.{append_assoc, arith, behind_dots, character, codes, cond, decimal_digit, eqb}
use Rattle.record_wire.proofs.Words.{eqb_tells, false, inl, inr, is_ascii_digit, is_ascii_graphic, is_in, is_special}
use Rattle.record_wire.proofs.Words.{itself, label_text, length, name_text, not, numbered, quoted, refl, specials, true}
use Rattle.record_wire.proofs.Words.{wire, written, written_all}
use Rattle.std.specs.Prelude.{decimal}
use Rattle.wirebase.specs.Bytes.{IsBytes}
use Rattle.wirebase.proofs.ByteParts.{IsBytes-front, IsBytes-rest}
use Rattle.record_wire.proofs.Characters.{both}

-- ---- characters

all_of : (ℕ → Bool) → List ℕ → Bool
all_of p [] = true
all_of p (x ∷ xs) = p x && all_of p xs

rest_in : (t : Bool) (u : Bool) → (t || u) ≡ true → t ≡ false → u ≡ true
rest_in t u e f = cc (ap (λ (b : Bool). b || u) f, e)

in_all : (p : ℕ → Bool) (xs : List ℕ) (byte : ℕ) → all_of p xs ≡ true → is_in xs byte ≡ true → p byte ≡ true
unfolding all_of
in_all p [] byte all e = cc
in_all p (x ∷ xs) byte all e =
    let b = both (p x) (all_of p xs) all in
    elim (eqb_tells byte x) [
      | inl h ↦ ap p h.1 ∙ b.0
      | inr h ↦ in_all p xs byte b.1 (rest_in (eqb byte x) (is_in xs byte) e h.0)
    ]

negated : (a : Bool) → not a ≡ true → a ≡ false
negated true e = cc
negated false e = refl

special_graphic : (byte : ℕ) → is_special byte ≡ true → is_ascii_graphic byte ≡ true
unfolding all_of
special_graphic byte e = in_all is_ascii_graphic specials byte refl e

special_no_digit : (byte : ℕ) → is_special byte ≡ true → is_ascii_digit byte ≡ false
unfolding all_of
special_no_digit byte e =
    negated (is_ascii_digit byte) (in_all (λ b. not (is_ascii_digit b)) specials byte refl e)

three_digits : (byte : ℕ) → byte < 256
    → (byte / 100 < 10) × (byte / 10 % 10 < 10) × (byte % 10 < 10)
    × (byte ≡ 100 * (byte / 100) + 10 * (byte / 10 % 10) + byte % 10)
three_digits byte h = (omega arith, omega arith, omega arith, omega arith)

number_text : (a b c : ℕ) → a < 10 → b < 10 → c < 10 → codes "\\" ++ decimal a ++ decimal b ++ decimal c
    ≡ 92 ∷ (48 + a) ∷ (48 + b) ∷ (48 + c) ∷ []
number_text a b c ha hb hc = rw (decimal_digit a ha, decimal_digit b hb, decimal_digit c hc) refl

by_tests : (byte : ℕ) (s g : Bool) → is_special byte ≡ s → is_ascii_graphic byte ≡ g → byte < 256
    → IsCharacter byte (cond s (codes "\\" ++ byte ∷ []) (cond g (byte ∷ [])
    (codes "\\" ++ decimal (byte / 100) ++ decimal (byte / 10 % 10) ++ decimal (byte % 10))))
by_tests byte true g e f h = quoted (special_graphic byte e) (special_no_digit byte e) refl
by_tests byte false true e f h = itself f e refl
by_tests byte false false e f h =
    let d = three_digits byte h in
    numbered (byte / 100) (byte / 10 % 10) (byte % 10) d.0 d.1 d.2 d.3 h
    (number_text (byte / 100) (byte / 10 % 10) (byte % 10) d.0 d.1 d.2)

pub character_is : (byte : ℕ) → byte < 256 → IsCharacter byte (character byte)
character_is byte h = by_tests byte (is_special byte) (is_ascii_graphic byte) refl refl h

-- ---- labels and names

abbrev pub AreSmall : List ℕ → Type 0
AreSmall bytes = AllByRecursion (λ byte. byte < 256) bytes

small_bytes : (bytes : List ℕ) → IsBytes bytes → AreSmall bytes
small_bytes [] h = tt
small_bytes (byte ∷ bytes) h = (h 0, small_bytes bytes (IsBytes-rest (byte ∷ []) bytes h))

small_labels : (labels : List (List ℕ)) → IsBytes (written_all labels) → AllByRecursion AreSmall labels
small_labels [] h = tt
small_labels (label ∷ labels) h = (
  small_bytes label (IsBytes-rest (length label ∷ []) label (IsBytes-front (written label) (written_all labels) h)),
  small_labels labels (IsBytes-rest (written label) (written_all labels) h),
)

label_spells : (label rest : List ℕ) → AreSmall label → Spells (label_text label ++ rest) label rest
label_spells [] rest h = refl
label_spells (byte ∷ label) rest h = (
  character byte,
  label_text label ++ rest,
  character_is byte h.0,
  append_assoc (character byte) (label_text label) rest,
  label_spells label rest h.1,
)

dots_go_on : (labels : List (List ℕ)) → AllByRecursion AreSmall labels → GoesOn (behind_dots labels) labels
dots_go_on [] h = inl refl
dots_go_on (label ∷ labels) h = (
  label_text label ++ behind_dots labels,
  behind_dots labels,
  refl,
  label_spells label (behind_dots labels) h.0,
  dots_go_on labels h.1,
)

text_is : (labels : List (List ℕ)) → AllByRecursion AreSmall labels → IsTextOf labels (name_text labels)
text_is [] h = refl
text_is (label ∷ labels) h = (behind_dots labels, label_spells label (behind_dots labels) h.0, dots_go_on labels h.1)

-- what is written is read
pub text_reads : (labels : List (List ℕ)) → AreOfName labels → IsBytes (wire labels)
    → IsNameText (name_text labels) labels
text_reads labels name bytes = record {
  name = name;
  is = text_is labels (small_labels labels (IsBytes-front (written_all labels) (0 ∷ []) bytes));
}
