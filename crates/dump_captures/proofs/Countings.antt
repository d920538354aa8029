-- The packets of each category, as they are counted.
use Rattle.std.proofs.Common.{◌≡◌, ℕ, zero, suc, ◌<◌, true, false, List, [], ◌∷◌, ◌++◌, length, take, get_or}
use Rattle.std.proofs.Common.{refl, ap, sym, ◌∙◌, arith}
use Rattle.std.proofs.lemmas.Bool.{lt-ltb}
use Rattle.std.proofs.lemmas.List.{take-append-le, take_all}
use Rattle.std.specs.List.{refill}
use Rattle.std.specs.Prelude.{◌||◌, if◌then◌else◌}
use Rattle.dump_captures.specs.Counts.{CountsValue, has_category, in_its_row, is_of, one_more_in, one_more_of}
use Rattle.dump_captures.specs.Numbers.{changed_at}
use Rattle.dump_captures.specs.private.Parts.{no_count}
use Rattle.dump_captures.specs.declared.counts.Category.{Category}
use Rattle.dump_captures.specs.declared.counts.Count.{Count}
use Rattle.dump_captures.proofs.Tallies.{changed_at-length}

-- a list that is borrowed whole, and overwritten by another of its length, is that one
pub refill-whole : {A : Type 0} (xs ws : List A) → length ws ≡ length xs → refill (length xs) xs ws ≡ ws
refill-whole xs ws same =
    take-append-le (length xs) ws _ (omega (arith, same)) ∙ take_all (length xs) ws (omega (arith, same))

-- ---- the row of a category

-- the index is not that of these rows, and not the next one
pub missing_more : (c : Category) (rows : List Count) (i : ℕ) → i < length rows
    → has_category c (take i rows) ≡ false → is_of (get_or rows i no_count).category c ≡ false
    → has_category c (take (suc i) rows) ≡ false
missing_more c [] i within none other = absurd (omega (arith, within))
missing_more c (row ∷ rows) zero within none other = rw other refl
missing_more c (row ∷ rows) (suc i) within none other =
    elim (is_of row.category c) as (λ is. (is || has_category c (take i rows)) ≡ false
    → (is || has_category c (take (suc i) rows)) ≡ false) [
      | true ↦ λ not. not
      | false ↦ λ not. missing_more c rows i (omega (arith, within)) not other
    ] none

-- where it is at a place, and not before, one more of it is counted there
pub one_more_of-there : (c : Category) (rows : List Count) (place : ℕ) → place < length rows
    → is_of (get_or rows place no_count).category c ≡ true → has_category c (take place rows) ≡ false
    → one_more_of c rows ≡ changed_at place one_more_in rows
one_more_of-there c [] place within is none = absurd (omega (arith, within))
one_more_of-there c (row ∷ rows) zero within is none = rw is refl
one_more_of-there c (row ∷ rows) (suc place) within is none =
    elim (is_of row.category c) as (λ here. (here || has_category c (take place rows)) ≡ false
    → (if here then one_more_in row ∷ rows else row ∷ one_more_of c rows)
    ≡ row ∷ changed_at place one_more_in rows) [
      | true ↦ λ not. absurd (cc not)
      | false ↦ λ not. ap (λ rest. row ∷ rest) (one_more_of-there c rows place (omega (arith, within)) is not)
    ] none

has_category-there : (c : Category) (rows : List Count) (place : ℕ) → place < length rows
    → is_of (get_or rows place no_count).category c ≡ true → has_category c rows ≡ true
has_category-there c [] place within is = absurd (omega (arith, within))
has_category-there c (row ∷ rows) zero within is = rw is refl
has_category-there c (row ∷ rows) (suc place) within is =
    elim (is_of row.category c) as (λ here. (here || has_category c rows) ≡ true) [
      | true ↦ refl
      | false ↦ has_category-there c rows place (omega (arith, within)) is
    ]

-- where its category has no row, it comes after the others
one_more_of-missing : (c : Category) (rows : List Count) → has_category c rows ≡ false
    → one_more_of c rows ≡ rows ++ (record { category = c; packets = 1 } ∷ [])
one_more_of-missing c [] none = refl
one_more_of-missing c (row ∷ rows) none =
    elim (is_of row.category c) as (λ here. (here || has_category c rows) ≡ false
    → (if here then one_more_in row ∷ rows else row ∷ one_more_of c rows)
    ≡ row ∷ (rows ++ (record { category = c; packets = 1 } ∷ []))) [
      | true ↦ λ not. absurd (cc not)
      | false ↦ λ not. ap (λ rest. row ∷ rest) (one_more_of-missing c rows not)
    ] none

-- ---- a packet more

-- it is counted in its row where there is one
pub in_its_row-there : (c : Category) (t : CountsValue) (place : ℕ) (seen lent written : List Count)
    → seen ≡ t.rows → lent ≡ t.rows → written ≡ changed_at place one_more_in lent
    → place < length seen → is_of (get_or seen place no_count).category c ≡ true
    → has_category c (take place seen) ≡ false
    → record t { rows = refill (length t.rows) t.rows written } ≡ in_its_row c t
in_its_row-there c t place seen lent written seen_is lent_is is within found none =
    let changed : written ≡ changed_at place one_more_in t.rows = is ∙ ap (changed_at place one_more_in) lent_is in
    let whole = refill-whole t.rows written (ap length changed ∙ changed_at-length place one_more_in t.rows) in
    let here : place < length t.rows = omega (arith, within, ap length seen_is) in
    let is_it : is_of (get_or t.rows place no_count).category c ≡ true =
    ap (λ rows. is_of (get_or rows place no_count).category c) (sym seen_is) ∙ found in
    let before : has_category c (take place t.rows) ≡ false =
    ap (λ rows. has_category c (take place rows)) (sym seen_is) ∙ none in
    rw (
      whole,
      changed,
      has_category-there c t.rows place here is_it,
      one_more_of-there c t.rows place here is_it before,
    ) refl

-- where there is none, and there is room for one, it comes after the others
pub in_its_row-new : (c : Category) (t : CountsValue) (seen written : List Count) → seen ≡ t.rows
    → has_category c seen ≡ false → length t.rows < 16
    → written ≡ t.rows ++ (record { category = c; packets = 1 } ∷ [])
    → record t { rows = written } ≡ in_its_row c t
in_its_row-new c t seen written seen_is none few is =
    let missing : has_category c t.rows ≡ false = ap (has_category c) (sym seen_is) ∙ none in
    rw (is, missing, lt-ltb _ _ few, one_more_of-missing c t.rows missing) refl
