-- Octets without the zeros at their end.
use Rattle.std.proofs.Common.{◌≡◌, ◌∙◌, ◌-◌, ◌≤◌, ◌<◌, [], ◌∷◌, ◌++◌, List, ℕ, ap, arith, length, refl, suc, sym, take}
use Rattle.std.proofs.Common.{zero}
use Rattle.std.proofs.lemmas.Bool.{ne_eqb}
use Rattle.std.proofs.Math.Seq.{take-suc}
use Rattle.std.specs.Prelude.{slice_index}
unfoldable use Rattle.neighbor_fields.specs.NdiscTexts.{without_zeros}
use Rattle.neighbor_fields.specs.NdiscTexts.{before_zeros}

pub none_left : without_zeros [] ≡ []
unfolding without_zeros
none_left = refl

zero_last : (bs : List ℕ) → without_zeros (bs ++ 0 ∷ []) ≡ without_zeros bs
unfolding without_zeros
zero_last [] = refl
zero_last (b ∷ bs) = ap (before_zeros b) (zero_last bs)

before_more : (bs : List ℕ) (n b : ℕ) → before_zeros b (bs ++ n ∷ []) ≡ b ∷ (bs ++ n ∷ [])
before_more [] n b = refl
before_more (next ∷ bs) n b = refl

other_last : (bs : List ℕ) (n : ℕ) → (n ≡ 0 → ⊥) → without_zeros (bs ++ n ∷ []) ≡ bs ++ n ∷ []
unfolding without_zeros
other_last [] n some = rw (ne_eqb n 0 some) refl
other_last (b ∷ bs) n some = ap (before_zeros b) (other_last bs n some) ∙ before_more bs n b

-- the octets up to a place, of which the last is a zero or is none
front_last : (bs : List ℕ) (n : ℕ) → 0 < n → n ≤ length bs → take n bs ≡ take (n - 1) bs ++ slice_index bs (n - 1) ∷ []
front_last bs zero some fits = absurd (omega (arith, some))
front_last bs (suc n) some fits =
    let less : suc n - 1 ≡ n = omega arith in rw less (take-suc bs n 0 (omega (arith, fits)))

pub zero_off : (bs : List ℕ) (n : ℕ) → 0 < n → n ≤ length bs → slice_index bs (n - 1) ≡ 0
    → without_zeros (take (n - 1) bs) ≡ without_zeros (take n bs)
zero_off bs n some fits e =
    sym (ap (λ (l : List ℕ). without_zeros l) (front_last bs n some fits)
    ∙ ap (λ (b : ℕ). without_zeros (take (n - 1) bs ++ b ∷ [])) e ∙ zero_last (take (n - 1) bs))

pub none_off : (bs : List ℕ) (n : ℕ) → 0 < n → n ≤ length bs → (slice_index bs (n - 1) ≡ 0 → ⊥)
    → without_zeros (take n bs) ≡ take n bs
none_off bs n some fits more =
    let last = front_last bs n some fits in
    ap (λ (l : List ℕ). without_zeros l) last ∙ other_last (take (n - 1) bs) (slice_index bs (n - 1)) more ∙ sym last
