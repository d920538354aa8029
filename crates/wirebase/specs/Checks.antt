-- The checks of a reader, in their order, and the reason of a refusal: that of the first check that fails.
use Rattle.std.specs.Prelude.{◌≡◌, ◌⊎◌, ⊤, List, [], ◌∷◌}

-- a condition, and the reason where it does not hold
pub record Check (Why : Type 0) : Type 1 where
  pub holds : Type 0
  pub why : Why

abbrev pub check : {Why : Type 0} → Type 0 → Why → Check Why
check holds why = record { holds = holds; why = why }

-- each check holds
abbrev pub Passes : {Why : Type 0} → List (Check Why) → Type 0
Passes [] = ⊤
Passes (c ∷ more) = c.holds × Passes more

-- a check fails, for this reason, and those before it hold
abbrev pub Fails : {Why : Type 0} → List (Check Why) → Why → Type 0
Fails [] why = ⊥
Fails (c ∷ more) why = ((c.holds → ⊥) × (why ≡ c.why)) ⊎ (c.holds × Fails more why)
