-- The kinds of options in turn.
use Rattle.std.specs.Prelude.{◌≡◌, [], ◌∷◌, List, None, Option, Some, ℕ}

-- a call gives the first kind and takes it off; where none is left it gives None, and none is left afterwards
abbrev pub GivesKind : List ℕ → Option ℕ → List ℕ → Type 0
GivesKind old None new = (old ≡ []) × (new ≡ [])
GivesKind old (Some kind) new = old ≡ kind ∷ new
