-- The meanings of codes.
use Rattle.std.specs.Prelude.{ℕ, suc, List, [], ◌∷◌, Option, None, Some}
use Rattle.wirebase.specs.Numbered.{case_in}

-- words, each with its number, counted on from this one
abbrev pub counted : ℕ → List (List ℕ) → List (Option (List ℕ) × ℕ)
counted n [] = []
counted n (words ∷ rest) = (Some words, n) ∷ counted (suc n) rest

-- the words of a code, where these are the words of 0, 1, ..
abbrev pub reason_in : List (List ℕ) → ℕ → Option (List ℕ)
reason_in words code = case_in (λ n. None) (counted 0 words) code
