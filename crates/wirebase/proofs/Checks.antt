-- Checks that hold, and a check that fails first, exclude each other.
use Rattle.wirebase.proofs.Words.{◌≡◌, ◌∙◌, [], ◌∷◌, ◌++◌, List, inl, inr, sym}
use Rattle.wirebase.specs.Checks.{Check, Passes, Fails}

pub passes_fails : {Why : Type 0} → (checks : List (Check Why)) → Passes checks → (why : Why) → Fails checks why → ⊥
passes_fails [] passes why fails = fails
passes_fails (c ∷ more) passes why (inl (differs, is)) = differs passes.0
passes_fails (c ∷ more) passes why (inr (holds, fails)) = passes_fails more passes.1 why fails

pub passes_both : {Why : Type 0} → (checks more : List (Check Why)) → Passes checks → Passes more
    → Passes (checks ++ more)
passes_both [] more passes holds = holds
passes_both (c ∷ checks) more passes holds = (passes.0, passes_both checks more passes.1 holds)

-- one reason is told
pub fails_one : {Why : Type 0} → (checks : List (Check Why)) → (why also : Why) → Fails checks why → Fails checks also
    → why ≡ also
fails_one [] why also f g = absurd f
fails_one (c ∷ checks) why also (inl f) (inl g) = f.1 ∙ sym g.1
fails_one (c ∷ checks) why also (inl f) (inr g) = absurd (f.0 g.0)
fails_one (c ∷ checks) why also (inr f) (inl g) = absurd (g.0 f.0)
fails_one (c ∷ checks) why also (inr f) (inr g) = fails_one checks why also f.1 g.1
