-- Lists of entries, one entry after another.
use Rattle.std.proofs.Common.{◌≡◌, ◌<◌, ◌++◌, ◌∙◌, ◌||◌, ℕ, zero, suc, Bool, true, false, cond, Some, List, [], ◌∷◌}
use Rattle.std.proofs.Common.{length, take, get_or, set, refl, ap, sym, arith}
use Rattle.std.proofs.lemmas.Bool.{lt-ltb, or_parts, or_right}
use Rattle.std.proofs.lemmas.List.{length-set, take-append-le, take_all}
use Rattle.std.specs.List.{find, refill}
use Rattle.std.specs.Option.{is_some}
use Rattle.examples.specs.TimedList.{has, put, renewed}

-- a list that is borrowed whole, and overwritten by another of its length, is that one
refill-whole : {A : Type 0} (xs ws : List A) → length ws ≡ length xs → refill (length xs) xs ws ≡ ws
refill-whole xs ws same =
    take-append-le (length xs) ws _ (omega (arith, same)) ∙ take_all (length xs) ws (omega (arith, same))

module _ {T : Type 0} where
  -- a place where an entry is of the key, and none before it is
  put_at : (test : T → Bool) (entry : T) (entries : List T) (i : ℕ) (d : T) → i < length entries
      → test (get_or entries i d) ≡ true → has test (take i entries) ≡ false
      → put test entry entries ≡ set entries i entry
  put_at test entry [] i d within is none = absurd (omega (arith, within))
  put_at test entry (x ∷ xs) zero d within is none = rw is refl
  put_at test entry (x ∷ xs) (suc i) d within is none =
      let first : test x ≡ false = (or_parts (test x) (has test (take i xs)) none).0 in
      rw first
      (ap (λ (l : List T). x ∷ l)
      (put_at test entry xs i d (omega (arith, within)) is (or_parts (test x) (has test (take i xs)) none).1))

  has_at : (test : T → Bool) (entries : List T) (i : ℕ) (d : T) → i < length entries
      → test (get_or entries i d) ≡ true → has test entries ≡ true
  has_at test [] i d within is = absurd (omega (arith, within))
  has_at test (x ∷ xs) zero d within is = rw is refl
  has_at test (x ∷ xs) (suc i) d within is =
      or_right (test x) (has test xs) (has_at test xs i d (omega (arith, within)) is)

  put_none : (test : T → Bool) (entry : T) (entries : List T) → has test entries ≡ false
      → put test entry entries ≡ entries ++ entry ∷ []
  put_none test entry [] none = refl
  put_none test entry (x ∷ xs) none =
      let first : test x ≡ false = (or_parts (test x) (has test xs) none).0 in
      rw first (ap (λ (l : List T). x ∷ l) (put_none test entry xs (or_parts (test x) (has test xs) none).1))

  -- the list with an entry where one is of its key, and where none is and there is room
  renewed_there : (most : ℕ) (test : T → Bool) (entry : T) (entries : List T) (i : ℕ) (d : T) → i < length entries
      → test (get_or entries i d) ≡ true → has test (take i entries) ≡ false
      → renewed most test entry entries ≡ set entries i entry
  renewed_there most test entry entries i d within is none =
      rw (has_at test entries i d within is) (put_at test entry entries i d within is none)

  -- one of a list that is lent is of the key
  pub has_lent : (test : T → Bool) (entry : T) (entries seen : List T) (i : ℕ) → seen ≡ entries → i < length seen
      → ((d : T) → test (get_or seen i d) ≡ true) → has test entries ≡ true
  has_lent test entry entries seen i seen_is within is =
      rw (← seen_is) (has_at test seen i entry within (is entry))

  -- the same of a list that is lent
  pub renewed_lent : (most : ℕ) (test : T → Bool) (entry : T) (entries seen lent : List T) (i : ℕ)
      → seen ≡ entries → lent ≡ entries → i < length seen
      → ((d : T) → test (get_or seen i d) ≡ true) → has test (take i seen) ≡ false
      → refill (length entries) entries (set lent i entry) ≡ renewed most test entry entries
  renewed_lent most test entry entries seen lent i seen_is lent_is within is none =
      rw (← seen_is, lent_is, ← seen_is)
      (refill-whole seen (set seen i entry) (length-set seen i entry)
      ∙ sym (renewed_there most test entry seen i entry within (is entry) none))

  pub renewed_new : (most : ℕ) (test : T → Bool) (entry : T) (entries : List T) → has test entries ≡ false
      → length entries < most → renewed most test entry entries ≡ entries ++ entry ∷ []
  renewed_new most test entry entries none few =
      rw (none, lt-ltb (length entries) most few) (put_none test entry entries none)

  -- what is found is there
  pub find_has : (test : T → Bool) (entries : List T) (entry : T) → find test entries ≡ Some entry
      → has test entries ≡ true
  find_has test [] entry is = cc
  find_has test (x ∷ xs) entry is =
      elim (test x) as (λ b. cond b (Some x) (find test xs) ≡ Some entry → (b || has test xs) ≡ true)
      [ true ↦ λ here. refl | false ↦ λ behind. find_has test xs entry behind ] is

  -- where one is found, one is there
  pub found_has : (test : T → Bool) (entries : List T) → has test entries ≡ is_some (find test entries)
  found_has test [] = refl
  found_has test (x ∷ xs) =
      elim (test x) as (λ b. (b || has test xs) ≡ is_some (cond b (Some x) (find test xs)))
      [ true ↦ refl | false ↦ found_has test xs ]
