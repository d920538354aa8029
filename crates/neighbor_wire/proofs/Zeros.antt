-- Octets without the zeros at their end.
use Rattle.std.proofs.Common.{◌≡◌, ℕ, zero, suc, ◌+◌, ◌-◌, ◌*◌, ◌≤◌, ◌<◌, List, [], ◌∷◌, ◌++◌, length, take, refl}
use Rattle.std.proofs.Common.{sym, ap}
use Rattle.std.proofs.Common.{◌∙◌, arith, replicate, length-append}
use Rattle.std.specs.Prelude.{slice_index}
use Rattle.std.proofs.Math.Seq.{take-suc}
use Rattle.std.proofs.lemmas.List.{append-nil, append_assoc, length-replicate}
use Rattle.neighbor_wire.specs.Option.{strip, strip_first, units, whole_len, zeros, filled}

-- ---- taking zeros off

pub strip-none : strip [] ≡ []
unfolding strip
strip-none = refl

strip-zero : (xs : List ℕ) → strip (xs ++ 0 ∷ []) ≡ strip xs
unfolding strip
strip-zero [] = refl
strip-zero (x ∷ xs) = ap (λ (l : List ℕ). strip_first l x) (strip-zero xs)

first_some : (xs : List ℕ) (n x : ℕ) → strip_first (xs ++ n ∷ []) x ≡ x ∷ (xs ++ n ∷ [])
first_some [] n x = refl
first_some (y ∷ xs) n x = refl

strip-some : (xs : List ℕ) (n : ℕ) → (n ≡ 0 → ⊥) → strip (xs ++ n ∷ []) ≡ xs ++ n ∷ []
unfolding strip
strip-some [] zero some = absurd (some refl)
strip-some [] (suc n) some = refl
strip-some (x ∷ xs) n some = ap (λ (l : List ℕ). strip_first l x) (strip-some xs n some) ∙ first_some xs n x

pub strip-zeros : (xs : List ℕ) (n : ℕ) → strip (xs ++ replicate n 0) ≡ strip xs
strip-zeros xs zero = ap (λ (l : List ℕ). strip l) (append-nil xs)
strip-zeros xs (suc n) =
    ap (λ (l : List ℕ). strip l) (sym (append_assoc xs (0 ∷ []) (replicate n 0)))
    ∙ strip-zeros (xs ++ 0 ∷ []) n ∙ strip-zero xs

first_strip : (xs : List ℕ) (x : ℕ) → strip xs ≡ xs → strip (strip_first xs x) ≡ strip_first xs x
unfolding strip
first_strip [] zero e = refl
first_strip [] (suc n) e = refl
first_strip (y ∷ xs) x e = ap (λ (l : List ℕ). strip_first l x) e

pub strip-strip : (xs : List ℕ) → strip (strip xs) ≡ strip xs
unfolding strip
strip-strip [] = refl
strip-strip (x ∷ xs) = first_strip (strip xs) x (strip-strip xs)

length-first : (xs : List ℕ) (x : ℕ) → length (strip_first xs x) ≤ suc (length xs)
length-first [] zero = omega arith
length-first [] (suc n) = omega arith
length-first (y ∷ xs) x = omega arith

pub length-strip : (xs : List ℕ) → length (strip xs) ≤ length xs
unfolding strip
length-strip [] = omega arith
length-strip (x ∷ xs) = omega (arith, length-first (strip xs) x, length-strip xs)

first_all : (xs rest : List ℕ) (x : ℕ) → (length xs ≡ length rest → xs ≡ rest)
    → length (strip_first xs x) ≡ suc (length rest) → strip_first xs x ≡ x ∷ rest
first_all [] [] zero same long = absurd (omega (arith, long))
first_all [] [] (suc n) same long = refl
first_all [] (y ∷ rest) zero same long = absurd (omega (arith, long))
first_all [] (y ∷ rest) (suc n) same long = absurd (omega (arith, long))
first_all (y ∷ xs) rest x same long = ap (λ (l : List ℕ). x ∷ l) (same (omega (arith, long)))

-- where none is taken off
pub strip_all : (xs : List ℕ) → length (strip xs) ≡ length xs → strip xs ≡ xs
unfolding strip
strip_all [] long = refl
strip_all (x ∷ xs) long = first_all (strip xs) xs x (strip_all xs) long

-- the octets up to a place, of which the last is a zero or is none
front_last : (xs : List ℕ) (n : ℕ) → 0 < n → n ≤ length xs → take n xs ≡ take (n - 1) xs ++ slice_index xs (n - 1) ∷ []
front_last xs zero some fits = absurd (omega (arith, some))
front_last xs (suc n) some fits =
    let less : suc n - 1 ≡ n = omega arith in rw less (take-suc xs n 0 (omega (arith, fits)))

pub zero_off : (xs : List ℕ) (n : ℕ) → 0 < n → n ≤ length xs → slice_index xs (n - 1) ≡ 0
    → strip (take (n - 1) xs) ≡ strip (take n xs)
zero_off xs n some fits e =
    sym (ap (λ (l : List ℕ). strip l) (front_last xs n some fits)
    ∙ ap (λ (x : ℕ). strip (take (n - 1) xs ++ x ∷ [])) e ∙ strip-zero (take (n - 1) xs))

pub none_off : (xs : List ℕ) (n : ℕ) → 0 < n → n ≤ length xs → (slice_index xs (n - 1) ≡ 0 → ⊥)
    → strip (take n xs) ≡ take n xs
none_off xs n some fits more =
    let last = front_last xs n some fits in
    ap (λ (l : List ℕ). strip l) last ∙ strip-some (take (n - 1) xs) (slice_index xs (n - 1)) more ∙ sym last

-- ---- zeros behind octets

pub zeros-none : (n k : ℕ) → n ≡ 8 * k → zeros n ≡ []
zeros-none n k e =
    let none : whole_len n - n ≡ 0 = omega (arith, e) in ap (λ (d : ℕ). replicate d 0) none

pub length-filled : (n : ℕ) (octets : List ℕ) → n + length (filled n octets) ≡ whole_len (n + length octets)
length-filled n octets =
    omega (
      arith,
      length-append octets (zeros (n + length octets)),
      length-replicate {A = ℕ} (whole_len (n + length octets) - (n + length octets)) 0,
    )

-- octets that fill whole units
pub filled-whole : (n k : ℕ) (octets : List ℕ) → n + length octets ≡ 8 * k → filled n octets ≡ octets
filled-whole n k octets e =
    ap (λ (l : List ℕ). octets ++ l) (zeros-none (n + length octets) k e) ∙ append-nil octets

pub filled-filled : (n : ℕ) (octets : List ℕ) → filled n (filled n octets) ≡ filled n octets
filled-filled n octets = filled-whole n (units (n + length octets)) (filled n octets) (length-filled n octets)

pub units-filled : (n : ℕ) (octets : List ℕ) → units (n + length (filled n octets)) ≡ units (n + length octets)
units-filled n octets = omega (arith, length-filled n octets)
