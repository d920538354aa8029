-- What private functions and models need; no public clause rests on it.
use Rattle.std.specs.Prelude.{◌≢◌, ℕ, List, ◌∷◌}

-- the bytes don't begin with padding
abbrev pub HasNoPadding : List ℕ → Type 0
HasNoPadding bytes = (rest : List ℕ) → bytes ≢ 0 ∷ rest
