-- The names of numbers.
use Rattle.std.specs.Prelude.{ℕ, ◌==◌, if◌then◌else◌, List, [], ◌∷◌, Option, None, Some}

-- numbers, each with its name
abbrev pub Rows : Type 0
Rows = List (ℕ × List ℕ)

-- the name of a number in such rows
abbrev pub name_in : Rows → ℕ → Option (List ℕ)
name_in [] n = None
name_in (row ∷ rest) n = if n == row.0 then Some row.1 else name_in rest n
