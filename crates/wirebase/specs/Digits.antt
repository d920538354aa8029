-- Digits of numbers.
use Rattle.std.specs.Prelude.{ℕ, zero, suc, ◌+◌, ◌/◌, ◌%◌, List, [], ◌∷◌, ◌++◌}

-- the last digits of a number, this many of them: those of its tenth, and then its last
abbrev pub last_digits : ℕ → ℕ → List ℕ
last_digits zero number = []
last_digits (suc count) number = last_digits count (number / 10) ++ (48 + number % 10) ∷ []
