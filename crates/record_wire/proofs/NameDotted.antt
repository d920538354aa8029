-- The text of a name without escapes.
use Rattle.record_wire.proofs.Words.{◌≡◌, ◌≤◌, ◌&&◌, [], ◌∷◌, ◌++◌, ◌+◌, ◌∙◌, Bool, List, ℕ, ap, append_assoc}
use Rattle.record_wire.proofs.Words.{are_usual, arith, behind_dots, character, codes, cond, count_by, dotted, eqb_tells}
use Rattle.record_wire.proofs.Words.{false, inl, inr, is_ascii_graphic, is_in, is_usual, label_text, length}
use Rattle.record_wire.proofs.Words.{length-append, length-take-le, name_text, not, refl, rules, specials, sym, take}
use Rattle.record_wire.proofs.Words.{true}
use Rattle.std.proofs.lemmas.List.Sums.{count_by-le-length, sum_by-append}
use Rattle.std.specs.List.{list_all}
use Rattle.record_wire.specs.NameDotted.{is_usual_label}
use Rattle.record_wire.proofs.Pieces.{plain_text}
use Rattle.record_wire.specs.declared.escapes.Escaping.{Escaping}

-- ---- bytes that are written as themselves

first_true : (a b : Bool) → (a && b) ≡ true → a ≡ true
first_true true b e = refl
first_true false b e = cc e

second_true : (a b : Bool) → (a && b) ≡ true → b ≡ true
second_true true b e = e
second_true false b e = cc e

negated : (a : Bool) → not a ≡ true → a ≡ false
negated true e = cc e
negated false e = refl

abbrev none_usual : List ℕ → Bool
none_usual bytes = list_all (λ byte. not (is_usual byte)) bytes

no_special : (xs : List ℕ) (byte : ℕ) → none_usual xs ≡ true → is_usual byte ≡ true → is_in xs byte ≡ false
no_special [] byte none usual = refl
no_special (x ∷ xs) byte none usual =
    let other = negated (is_usual x) (first_true (not (is_usual x)) (none_usual xs) none) in
    elim (eqb_tells byte x) [
      | inl h ↦ absurd (cc (ap is_usual h.1, other, usual))
      | inr h ↦ rw h.0 (no_special xs byte (second_true (not (is_usual x)) (none_usual xs) none) usual)
    ]

visible : (byte : ℕ) → is_usual byte ≡ true → is_ascii_graphic byte ≡ true
visible byte usual = search rules

usual_character : (byte : ℕ) → is_usual byte ≡ true → character byte ≡ byte ∷ []
usual_character byte usual =
    plain_text Escaping.Label byte (rw (visible byte usual, no_special specials byte refl usual) refl)

usual_label : (label : List ℕ) → is_usual_label label ≡ true → label_text label ≡ label
usual_label [] usual = refl
usual_label (byte ∷ label) usual =
    rw (
      usual_character byte (first_true (is_usual byte) (is_usual_label label) usual),
      usual_label label (second_true (is_usual byte) (is_usual_label label) usual),
    ) refl

-- ---- labels and dots

dots_behind : (labels : List (List ℕ)) → are_usual labels ≡ true
    → behind_dots labels ++ codes "." ≡ codes "." ++ dotted labels
dots_behind [] usual = refl
dots_behind (label ∷ labels) usual =
    let one = usual_label label (first_true (is_usual_label label) (are_usual labels) usual) in
    let more = dots_behind labels (second_true (is_usual_label label) (are_usual labels) usual) in
    rw one (ap (λ (t : List ℕ). 46 ∷ t)
    (append_assoc label (behind_dots labels) (codes ".")
    ∙ (ap (λ (t : List ℕ). label ++ t) more ∙ sym (append_assoc label (codes ".") (dotted labels)))))

-- labels of such bytes, each before a dot, are the text of the name and a last dot
pub usual_name : (label : List ℕ) (labels : List (List ℕ)) → are_usual (label ∷ labels) ≡ true
    → dotted (label ∷ labels) ≡ name_text (label ∷ labels) ++ codes "."
usual_name label labels usual =
    let one = usual_label label (first_true (is_usual_label label) (are_usual labels) usual) in
    let more = dots_behind labels (second_true (is_usual_label label) (are_usual labels) usual) in
    sym (
    append_assoc (label_text label) (behind_dots labels) (codes ".")
    ∙ (ap (λ (t : List ℕ). t ++ (behind_dots labels ++ codes ".")) one
    ∙ (ap (λ (t : List ℕ). label ++ t) more ∙ sym (append_assoc label (codes ".") (dotted labels))))
    )

-- ---- usual bytes that are counted

abbrev one_usual : ℕ → ℕ
one_usual byte = cond (is_usual byte) 1 0

count_first : (byte : ℕ) (label : List ℕ) → count_by is_usual (byte ∷ label)
    ≡ one_usual byte + count_by is_usual label
count_first byte label = omega (arith, sum_by-append one_usual (byte ∷ []) label)

label_counted : (label : List ℕ) → is_usual_label label ≡ true → count_by is_usual label ≡ length label
label_counted [] usual = refl
label_counted (byte ∷ label) usual =
    let more = label_counted label (second_true (is_usual byte) (is_usual_label label) usual) in
    let one : one_usual byte ≡ 1 =
    ap (λ (b : Bool). cond b 1 0) (first_true (is_usual byte) (is_usual_label label) usual) in
    omega (arith, count_first byte label, one, more)

by_first : (b : Bool) (label : List ℕ) → cond b 1 0 + count_by is_usual label ≡ length label + 1
    → (b ≡ true) × (count_by is_usual label ≡ length label)
by_first true label e = (refl, omega (arith, e))
by_first false label e = absurd (omega (arith, e, count_by-le-length is_usual label))

counted_label : (label : List ℕ) → count_by is_usual label ≡ length label → is_usual_label label ≡ true
counted_label [] e = refl
counted_label (byte ∷ label) e =
    let both = by_first (is_usual byte) label (omega (arith, e, count_first byte label)) in
    rw both.0 (counted_label label both.1)

-- a label and its dot
count_one : (label : List ℕ) (labels : List (List ℕ)) → count_by is_usual (dotted (label ∷ labels))
    ≡ count_by is_usual label + count_by is_usual (dotted labels)
count_one label labels =
    omega (
      arith,
      sum_by-append one_usual (label ++ codes ".") (dotted labels),
      sum_by-append one_usual label (codes "."),
    )

length_one : (label : List ℕ) (labels : List (List ℕ)) → length (dotted (label ∷ labels))
    ≡ length label + 1 + length (dotted labels)
length_one label labels =
    omega (arith, length-append (label ++ codes ".") (dotted labels), length-append label (codes "."))

count_few : (labels : List (List ℕ)) → count_by is_usual (dotted labels) + length labels ≤ length (dotted labels)
count_few [] = omega arith
count_few (label ∷ labels) =
    omega (
      arith,
      count_few labels,
      count_one label labels,
      length_one label labels,
      count_by-le-length is_usual label,
    )

-- where all bytes of labels are usual, all but the dots are, and conversely
usual_counted : (labels : List (List ℕ)) → are_usual labels ≡ true
    → count_by is_usual (dotted labels) + length labels ≡ length (dotted labels)
usual_counted [] usual = refl
usual_counted (label ∷ labels) usual =
    omega (
      arith,
      usual_counted labels (second_true (is_usual_label label) (are_usual labels) usual),
      label_counted label (first_true (is_usual_label label) (are_usual labels) usual),
      count_one label labels,
      length_one label labels,
    )

counted_usual : (labels : List (List ℕ))
    → count_by is_usual (dotted labels) + length labels ≡ length (dotted labels) → are_usual labels ≡ true
counted_usual [] e = refl
counted_usual (label ∷ labels) e =
    let ones = count_one label labels in
    let lens = length_one label labels in
    let few = count_by-le-length is_usual label in
    let rest = count_few labels in
    let one = counted_label label (omega (arith, e, ones, lens, few, rest)) in
    let more = counted_usual labels (omega (arith, e, ones, lens, few, rest)) in
    rw one more

-- usual bytes at the start of a buffer
pub front_usual : (labels : List (List ℕ)) (room : List ℕ) (len count dots : ℕ) → length room ≡ 256 → len ≤ 255
    → take len room ≡ dotted labels → count ≡ count_by is_usual (take len room) → dots ≡ length labels
    → (count + dots ≡ len → are_usual labels ≡ true) × (are_usual labels ≡ true → count + dots ≡ len)
front_usual labels room len count dots long few front counted put =
    let lens : length (dotted labels) ≡ len =
    sym (ap length front) ∙ length-take-le len room (omega (arith, few, long)) in
    let counts : count ≡ count_by is_usual (dotted labels) = counted ∙ ap (count_by is_usual) front in (
      λ e. counted_usual labels (omega (arith, e, lens, counts, put)),
      λ usual. omega (arith, usual_counted labels usual, lens, counts, put),
    )
