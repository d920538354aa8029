-- Octets that are cut into parts.
use Rattle.std.specs.Prelude.{zero, suc, [], ◌∷◌, List, ℕ, drop, take}

-- The parts from the first on, `count` of them or as many as there are: each is as long as `len` tells from the octets
-- that are left.
abbrev pub parts : (List ℕ → ℕ) → ℕ → List ℕ → List (List ℕ)
parts len zero bytes = []
parts len (suc count) [] = []
parts len (suc count) (b ∷ bs) = take (len (b ∷ bs)) (b ∷ bs) ∷ parts len count (drop (len (b ∷ bs)) (b ∷ bs))

-- the octets behind them
abbrev pub behind : (List ℕ → ℕ) → ℕ → List ℕ → List ℕ
behind len zero bytes = bytes
behind len (suc count) [] = []
behind len (suc count) (b ∷ bs) = behind len count (drop (len (b ∷ bs)) (b ∷ bs))
