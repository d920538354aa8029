-- An octet by three digits.
use Rattle.std.specs.Prelude.{◌/◌, ◌%◌, ◌++◌, List, decimal, ℕ}

-- the three digits of a byte's number
abbrev pub three_digits : ℕ → List ℕ
three_digits byte = decimal (byte / 100) ++ (decimal (byte / 10 % 10) ++ decimal (byte % 10))
