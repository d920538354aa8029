-- Numbers that are counted up to the greatest of 64 bits, and how several are printed together.
use Rattle.std.specs.Prelude.{ℕ, zero, suc, ◌+◌, ◌-◌, ◌^◌, min, List, [], ◌∷◌, ◌++◌, codes, flat_map}

-- this many more, up to the greatest number of 64 bits
abbrev pub more_by : ℕ → ℕ → ℕ
more_by count n = min (n + count) (2 ^ 64 - 1)

abbrev pub one_more : ℕ → ℕ
one_more n = more_by 1 n

-- a list with another item at a place
abbrev pub changed_at : {A : Type 0} → ℕ → (A → A) → List A → List A
changed_at place change [] = []
changed_at zero change (x ∷ xs) = change x ∷ xs
changed_at (suc place) change (x ∷ xs) = x ∷ changed_at place change xs

-- parts with commas between them and brackets around them, as ` (1 cut, 2 checksum)`, and nothing where there is none
abbrev pub in_brackets : List (List ℕ) → List ℕ
in_brackets [] = []
in_brackets (part ∷ parts) =
    codes " (" ++ part ++ flat_map (λ further. codes ", " ++ further) parts ++ codes ")"
