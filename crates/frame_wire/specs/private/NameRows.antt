-- The rows of a table, as the definitions have them.
use Rattle.std.specs.Prelude.{ℕ, List, [], ◌∷◌}
use Rattle.std.specs.Borrow.{Bor}
use Rattle.frame_wire.specs.Names.{Rows}

abbrev pub names_of : List (ℕ × Bor (List ℕ)) → Rows
names_of [] = []
names_of (row ∷ rest) = (row.1.now, row.0) ∷ names_of rest
