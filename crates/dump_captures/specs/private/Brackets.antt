-- Parts in brackets, as they are printed in a loop.
use Rattle.std.specs.Prelude.{[], ◌∷◌, ◌++◌, Bool, List, codes, false, flat_map, if◌then◌else◌, true, ℕ}
use Rattle.dump_captures.specs.Counts.{row_part}
use Rattle.dump_captures.specs.declared.counts.Count.{Count}

-- what precedes the first part, and what precedes another
abbrev pub before : Bool → List ℕ
before is_first = if is_first then codes " (" else codes ", "

-- the parts so far, before the bracket after them
abbrev pub opened : List (List ℕ) → List ℕ
opened [] = []
opened (part ∷ parts) = codes " (" ++ part ++ flat_map (λ further. codes ", " ++ further) parts

abbrev pub is_none : List (List ℕ) → Bool
is_none [] = true
is_none (part ∷ parts) = false

-- parts after others, where those are not none
abbrev pub appended : Bool → List (List ℕ) → List ℕ
appended is_first [] = []
appended is_first (part ∷ parts) = before is_first ++ part ++ flat_map (λ further. codes ", " ++ further) parts

abbrev pub row_parts : List Count → List (List ℕ)
row_parts rows = flat_map (λ row. row_part row ∷ []) rows
