-- Spaces before octets.
use Rattle.std.proofs.Common.{◌≡◌, ℕ, ◌+◌, ◌*◌, ◌-◌, ◌<◌, Bool, true, false, List, All, length, take, drop}
use Rattle.std.proofs.Common.{get_or, refl, arith}
use Rattle.std.proofs.lemmas.Bool.{eqb-true, not-false}
use Rattle.std.proofs.Math.Seq.{take-add}
use Rattle.std.proofs.lemmas.List.Elements.{All-append, All-more, All-same}
use Rattle.std.specs.Prelude.{◌==◌, ◌||◌, not}

-- Spaces alone, and one more at the next place
pub spaces_more : (octets : List ℕ) (i : ℕ) (found : Bool) → i < length octets
    → (found ≡ false → All (λ octet. octet ≡ 32) (take i octets))
    → found || not (get_or octets i 0 == 32) ≡ false → All (λ octet. octet ≡ 32) (take (i + 1) octets)
spaces_more octets i true within so_far none = absurd (cc none)
spaces_more octets i false within so_far none =
    All-more (λ octet. octet ≡ 32) octets i 0 within (so_far refl) (eqb-true _ _ (not-false _ none))

-- What holds of each octet of some steps, and of the next step
pub holds_step : (P : ℕ → Type 0) (octets : List ℕ) (step end : ℕ) → All P (take (step * 16) octets)
    → end ≡ step * 16 + 16 → All P (take (end - step * 16) (drop (step * 16) octets))
    → All P (take ((step + 1) * 16) octets)
holds_step P octets step end before is here =
    let whole : (step + 1) * 16 ≡ step * 16 + (end - step * 16) = omega (arith, is) in
    rw whole
    (All-same P _ _ (take-add (step * 16) (end - step * 16) octets)
    (All-append P (take (step * 16) octets) _ before here))
