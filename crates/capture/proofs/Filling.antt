-- What is read of bytes that are known.
use Rattle.std.proofs.Common.{◌≡◌, ℕ, true, false, zero, suc, ◌+◌, ◌-◌, ◌<◌, ◌≤◌, ◌⊎◌, inl, inr, List, [], ◌∷◌, ◌++◌}
use Rattle.std.proofs.Common.{length, take, drop, Option, None, Some, refl, ap, sym, subst, ◌∙◌, arith, length-append}
use Rattle.std.proofs.Common.{length-drop}
use Rattle.std.proofs.lemmas.List.{append-nil, take_all, drop_all, take_at, drop_at, length-take, take-append-drop}
use Rattle.std.proofs.lemmas.List.{drop-drop}
use Rattle.std.proofs.Math.Seq.{take-add}
use Rattle.capture.specs.private.Reader.{Takes, Reads, Skips}
use Rattle.capture.specs.private.Taken.{Splits}

pub fits_or_not : (a b : ℕ) → (a ≤ b) ⊎ (b < a)
fits_or_not zero b = inl (omega arith)
fits_or_not (suc a) zero = inr (omega arith)
fits_or_not (suc a) (suc b) = elim (fits_or_not a b) [ inl h ↦ inl (omega (arith, h)) | inr h ↦ inr (omega (arith, h)) ]

pub no_byte : (xs : List ℕ) → length xs ≡ 0 → xs ≡ []
no_byte [] none = refl
no_byte (x ∷ xs) none = absurd (omega (arith, none))

-- ---- bytes that a reader gave

takes_known : (xs ys taken : List ℕ) (k : ℕ) → xs ≡ taken ++ ys → length taken ≤ k → (length taken < k → ys ≡ [])
    → (taken ≡ take k xs) × (ys ≡ drop k xs)
takes_known xs ys taken k split few ended = elim (fits_or_not k (length taken)) [
  | inl all ↦ (
    sym (ap (take k) split ∙ take_at taken ys k (omega (arith, all, few))),
    sym (ap (drop k) split ∙ drop_at taken ys k (omega (arith, all, few))),
  )
  | inr short ↦
      let whole : xs ≡ taken = split ∙ ap (λ l. taken ++ l) (ended short) ∙ append-nil taken in
      let fits : length xs ≤ k = omega (arith, few, ap length whole) in
      (sym whole ∙ sym (take_all k xs fits), ended short ∙ sym (drop_all k xs fits))
]

-- ---- bytes that were read in two calls

both : (all : List ℕ) (m count : ℕ) → m ≤ count
    → (take m all ++ take (count - length (take m all)) (drop m all) ≡ take count all)
    × (drop (count - length (take m all)) (drop m all) ≡ drop count all)
both all m count order = elim (fits_or_not m (length all)) [
  | inl fits ↦
      let long : length (take m all) ≡ m = omega (arith, length-take m all, fits) in
      let sum : m + (count - m) ≡ count = omega (arith, order) in (
        ap (λ n. take m all ++ take (count - n) (drop m all)) long ∙ sym (take-add m (count - m) all)
            ∙ ap (λ n. take n all) sum,
        ap (λ n. drop (count - n) (drop m all)) long ∙ drop-drop (count - m) m all ∙ ap (λ n. drop n all) sum,
      )
  | inr short ↦
      let none : drop m all ≡ [] = drop_all m all (omega (arith, short)) in
      let whole : take m all ≡ all = take_all m all (omega (arith, short)) in
      let nothing : (k : ℕ) → take k (drop m all) ≡ [] =
      λ k. no_byte (take k (drop m all)) (omega (arith, length-take k (drop m all), ap length none)) in (
        ap (λ l. take m all ++ l) (nothing _) ∙ append-nil (take m all) ∙ whole
            ∙ sym (take_all count all (omega (arith, short, order))),
        no_byte _ (omega (arith, length-drop (count - length (take m all)) (drop m all), ap length none))
            ∙ sym (drop_all count all (omega (arith, short, order))),
      )
]

fills_known : (all : List ℕ) (new : Option (List ℕ)) (taken : List ℕ) (m count : ℕ) → m ≤ count
    → Takes (Some (drop m all)) new taken (count - length (take m all))
    → (take m all ++ taken ≡ take count all) × (new ≡ Some (drop count all))
fills_known all None taken m count order t = absurd t.consumed
fills_known all (Some ys) taken m count order t =
    let k = count - length (take m all) in
    let known = takes_known (drop m all) ys taken k t.consumed t.few t.ended in
    let joined = both all m count order in
    (ap (λ l. take m all ++ l) known.0 ∙ joined.0, ap Some (known.1 ∙ joined.1))

pub fills_reads : (all : List ℕ) (old new : Option (List ℕ)) (before after : List ℕ) (m count : ℕ) → m ≤ count
    → Reads all old before m
    → ((taken : List ℕ) × (after ≡ before ++ taken) × Takes old new taken (count - length before))
    → Reads all new after count
fills_reads all old new before after m count order reads fills =
    let t : Takes (Some (drop m all)) new fills.0 (count - length (take m all)) =
    subst (λ o. Takes o new fills.0 (count - length (take m all))) reads.rest
    (subst (λ l. Takes old new fills.0 (count - length l)) reads.front fills.2) in
    let known = fills_known all new fills.0 m count order t in
    record { front = fills.1 ∙ ap (λ l. l ++ fills.0) reads.front ∙ known.0; rest = known.1 }

-- the first call
pub first_reads : (all : List ℕ) (old new : Option (List ℕ)) (before after : List ℕ) (count : ℕ) → before ≡ []
    → Reads all old [] 0
    → ((taken : List ℕ) × (after ≡ before ++ taken) × Takes old new taken (count - length before))
    → Reads all new after count
first_reads all old new before after count empty reads fills =
    fills_reads all old new before after 0 count (omega arith) (subst (λ l. Reads all old l 0) (sym empty) reads) fills

nothing_read : (all : List ℕ) (old : Option (List ℕ)) (done : ℕ) → Reads all old [] done → old ≡ Some all
nothing_read all old done reads =
    reads.rest ∙ ap Some (ap (λ l. l ++ drop done all) reads.front ∙ take-append-drop done all)

-- ---- a front that was read, and what is left after it

pub reads_splits : (all octets : List ℕ) (left : Option (List ℕ)) (n : ℕ) → Reads all left octets n
    → Splits all octets left
reads_splits all octets left n reads = record {
  rest = drop n all;
  split = sym (take-append-drop n all) ∙ ap (λ l. l ++ drop n all) (sym reads.front);
  left_is = reads.rest;
}

pub reads_length : (all octets : List ℕ) (left : Option (List ℕ)) (n k : ℕ) → Reads all left octets n → k ≤ n
    → length octets < k → length all < k
reads_length all octets left n k reads order short =
    omega (arith, ap length reads.front, length-take n all, order, short)

pub reads_fits : (all octets : List ℕ) (left : Option (List ℕ)) (n : ℕ) → Reads all left octets n
    → n ≤ length octets → (length octets ≡ n) × (n ≤ length all)
reads_fits all octets left n reads fits = (
  omega (arith, ap length reads.front, length-take n all, fits),
  omega (arith, ap length reads.front, length-take n all, fits),
)

-- where this many bytes are there, these are all that were read
pub reads_whole : (all octets : List ℕ) (left : Option (List ℕ)) (n : ℕ) → Reads all left octets n
    → n ≤ length octets → Reads all left octets (length octets)
reads_whole all octets left n reads fits =
    subst (Reads all left octets) (sym ((reads_fits all octets left n reads fits).0)) reads

-- ---- bytes that were passed over

skips_known : (all : List ℕ) (new : Option (List ℕ)) (m count : ℕ) → Skips (Some (drop m all)) new count true
    → m ≤ length all → (new ≡ Some (drop (m + count) all)) × (m + count ≤ length all)
skips_known all None m count s fits = absurd s.consumed
skips_known all (Some ys) m count s fits =
    let long : length s.passed ≡ count = s.all refl in (
      ap Some (sym (drop_at s.passed ys count long) ∙ sym (ap (drop count) s.consumed) ∙ drop-drop count m all),
      omega (arith, ap length s.consumed, length-append s.passed ys, length-drop m all, long, fits),
    )

pub skips_reads : (all octets : List ℕ) (old new : Option (List ℕ)) (n : ℕ) → length octets ≤ n
    → Reads all old octets (length octets) → Skips old new (n - length octets) true
    → (n ≤ length all) × (new ≡ Some (drop n all))
skips_reads all octets old new n few reads s =
    let m = length octets in
    let known =
    skips_known all new m (n - m) (subst (λ o. Skips o new (n - m) true) reads.rest s)
    ((reads_fits all octets old m reads (omega arith)).1) in
    let sum : m + (n - m) ≡ n = omega (arith, few) in
    (subst (λ k. k ≤ length all) sum known.1, subst (λ k. new ≡ Some (drop k all)) sum known.0)

skips_short_known : (all : List ℕ) (new : Option (List ℕ)) (m count : ℕ) → Skips (Some (drop m all)) new count false
    → m ≤ length all → length all < m + count
skips_short_known all None m count s fits = absurd s.consumed
skips_short_known all (Some ys) m count s fits =
    let none : ys ≡ [] = s.ended refl in
    let few : length s.passed < count = s.fewer refl in
    omega (arith, ap length s.consumed, length-append s.passed ys, ap length none, length-drop m all, few, fits)

pub skips_short : (all octets : List ℕ) (old new : Option (List ℕ)) (n : ℕ) → length octets ≤ n
    → Reads all old octets (length octets) → Skips old new (n - length octets) false → length all < n
skips_short all octets old new n few reads s =
    let m = length octets in
    let short =
    skips_short_known all new m (n - m) (subst (λ o. Skips o new (n - m) false) reads.rest s)
    ((reads_fits all octets old m reads (omega arith)).1) in
    omega (arith, few, short)
