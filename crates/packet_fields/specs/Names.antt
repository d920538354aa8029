-- The names of numbers.
use Rattle.std.specs.Prelude.{ℕ, ◌==◌, if◌then◌else◌, List, [], ◌∷◌, Option, None, Some}
use Rattle.std.specs.Borrow.{Bor}

-- numbers, each with its name
abbrev pub Rows : Type 0
Rows = List (ℕ × List ℕ)

-- the name of a number in such rows
abbrev pub name_in : Rows → ℕ → Option (List ℕ)
name_in [] n = None
name_in (row ∷ rest) n = if n == row.0 then Some row.1 else name_in rest n

-- the rows of a table of the program
abbrev pub rows_of : List (ℕ × Bor (List ℕ)) → Rows
rows_of [] = []
rows_of (row ∷ rest) = (row.0, row.1.now) ∷ rows_of rest
