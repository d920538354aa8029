-- The words of octets that are put together, and the CR at their end.
use Rattle.std.proofs.Common.{◌≡◌, ◌≢◌, ℕ, suc, ◌+◌, ◌-◌, ◌<◌, ◌≤◌, Bool, true, false, List, [], ◌∷◌, ◌++◌, All, length}
use Rattle.std.proofs.Common.{take, refl, ap, sym, ◌∙◌, arith, ne_eqb, lt-ltb, length-append}
use Rattle.std.proofs.Common.{length-take-le}
use Rattle.std.proofs.lemmas.List.{append-nil}
use Rattle.std.proofs.lemmas.List.Elements.{All-head, All-tail, All-take, filter-append}
use Rattle.std.specs.Prelude.{◌==◌, nat_lt, if◌then◌else◌, slice_index, filter}
use Rattle.std.specs.Io.BufRead.{strip_last, ends_with_byte}
use Rattle.dump_lines.specs.Lines.{before_first, parts_of, words_in}

abbrev pub Free : List ℕ → Type 0
Free octets = All (λ octet. octet ≢ 32) octets

abbrev pub is_word : List ℕ → Bool
is_word part = nat_lt 0 (length part)

-- ---- the octet at the end

-- it is that of what follows the first octet
stripped : (ends : Bool) (x : ℕ) (xs : List ℕ) (n : ℕ) → (if ends then take (suc n) (x ∷ xs) else x ∷ xs) ≡ x
    ∷ (if ends then take n xs else xs)
stripped true x xs n = refl
stripped false x xs n = refl

pub strip_last-more : (octet x : ℕ) (xs : List ℕ) (n : ℕ) → length xs ≡ suc n
    → strip_last octet (x ∷ xs) ≡ x ∷ strip_last octet xs
strip_last-more octet x xs n e =
    let whole : length (x ∷ xs) - 1 ≡ suc n = omega (arith, e) in
    let rest : length xs - 1 ≡ n = omega (arith, e) in
    let some : 0 < length xs = omega (arith, e) in
    let more : 0 < length (x ∷ xs) = omega arith in
    rw (whole, rest, lt-ltb 0 (length (x ∷ xs)) more, lt-ltb 0 (length xs) some)
    (stripped (slice_index xs n == octet) x xs n)

-- it is that of what follows some octets
pub strip_last-append : (octet : ℕ) (xs : List ℕ) (y : ℕ) (ys : List ℕ)
    → strip_last octet (xs ++ (y ∷ ys)) ≡ xs ++ strip_last octet (y ∷ ys)
strip_last-append octet [] y ys = refl
strip_last-append octet (x ∷ xs) y ys =
    strip_last-more octet x (xs ++ (y ∷ ys)) (length xs + length ys) (omega (arith, length-append xs (y ∷ ys)))
    ∙ ap (λ l. x ∷ l) (strip_last-append octet xs y ys)

-- where there is no CR, nothing is dropped
pub strip_last-free : (octet : ℕ) (xs : List ℕ) → All (λ x. x ≢ octet) xs → strip_last octet xs ≡ xs
strip_last-free octet [] free = refl
strip_last-free octet (x ∷ []) free = rw (ne_eqb x octet (All-head (λ x. x ≢ octet) x [] free)) refl
strip_last-free octet (x ∷ y ∷ ys) free =
    strip_last-append octet (x ∷ []) y ys
    ∙ ap (λ l. x ∷ l) (strip_last-free octet (y ∷ ys) (All-tail (λ x. x ≢ octet) x (y ∷ ys) free))

-- at most one goes
pub length-strip_last : (octet : ℕ) (xs : List ℕ) → length xs ≤ suc (length (strip_last octet xs))
length-strip_last octet xs = at (ends_with_byte octet xs)
  where
    at : (b : Bool) → length xs ≤ suc (length (if b then take (length xs - 1) xs else xs))
    at true = omega (arith, length-take-le (length xs - 1) xs (omega arith))
    at false = omega arith

pub All-strip_last : (P : ℕ → Type 0) (octet : ℕ) (xs : List ℕ) → All P xs → All P (strip_last octet xs)
All-strip_last P octet xs all = at (ends_with_byte octet xs)
  where
    at : (b : Bool) → All P (if b then take (length xs - 1) xs else xs)
    at true = All-take P (length xs - 1) xs all
    at false = all

-- ---- words

-- there is a first part
first_part : (xs : List ℕ) → (part : List ℕ) × (rest : List (List ℕ)) × (parts_of xs ≡ part ∷ rest)
first_part [] = ([], [], refl)
first_part (x ∷ xs) =
    let more = first_part xs in
    rw more.2 (elim (x == 32) as
    (λ b. (part : List ℕ) × (rest : List (List ℕ))
    × ((if b then [] ∷ more.0 ∷ more.1 else (x ∷ more.0) ∷ more.1) ≡ part ∷ rest)) [
      | true ↦
          ([], more.0 ∷ more.1, refl)
      | false ↦ (x ∷ more.0, more.1, refl)
    ])

-- a space parts them
parts_of-append : (xs ys : List ℕ) → parts_of (xs ++ (32 ∷ ys)) ≡ parts_of xs ++ parts_of ys
parts_of-append [] ys = refl
parts_of-append (x ∷ xs) ys =
    let first = first_part xs in
    rw (parts_of-append xs ys, first.2)
    (elim (x == 32) as
    (λ b. (if b then [] ∷ (first.0 ∷ first.1) ++ parts_of ys
    else before_first x ((first.0 ∷ first.1) ++ parts_of ys))
    ≡ (if b then [] ∷ first.0 ∷ first.1 else before_first x (first.0 ∷ first.1)) ++ parts_of ys) [
      | true ↦ refl
      | false ↦
          refl
    ])

pub words_in-append : (xs ys : List ℕ) → words_in (xs ++ (32 ∷ ys)) ≡ words_in xs ++ words_in ys
words_in-append xs ys = ap (filter is_word) (parts_of-append xs ys) ∙ filter-append is_word (parts_of xs) (parts_of ys)

-- octets with no space are of one part with what follows
parts_of-free : (xs ys part : List ℕ) (rest : List (List ℕ)) → Free xs → parts_of ys ≡ part ∷ rest
    → parts_of (xs ++ ys) ≡ (xs ++ part) ∷ rest
parts_of-free [] ys part rest free is = is
parts_of-free (x ∷ xs) ys part rest free is =
    rw (ne_eqb x 32 (All-head (λ x. x ≢ 32) x xs free))
    (ap (before_first x) (parts_of-free xs ys part rest (All-tail (λ x. x ≢ 32) x xs free) is))

-- and of one word, where there are any
pub words_in-free : (xs ys : List ℕ) → Free xs → 0 < length xs
    → (more : List ℕ) × (rest : List (List ℕ)) × (words_in (xs ++ ys) ≡ (xs ++ more) ∷ rest)
words_in-free xs ys free some =
    let first = first_part ys in
    let long : 0 < length (xs ++ first.0) = omega (arith, length-append xs first.0) in (
      first.0,
      filter is_word first.1,
      ap (filter is_word) (parts_of-free xs ys first.0 first.1 free first.2)
          ∙ rw (lt-ltb 0 (length (xs ++ first.0)) long) refl,
    )

-- with nothing after them they are the word
pub words_in-word : (xs : List ℕ) → Free xs → 0 < length xs → words_in xs ≡ xs ∷ []
words_in-word xs free some =
    let whole = parts_of-free xs [] [] [] free refl in
    let parts : parts_of xs ≡ xs ∷ [] = ap parts_of (sym (append-nil xs)) ∙ whole ∙ ap (λ l. l ∷ []) (append-nil xs) in
    ap (filter is_word) parts ∙ rw (lt-ltb 0 (length xs) some) refl
