-- Strings of up to 255 bytes, each after its length (RFC 1035 section 3.3).
use Rattle.std.specs.Prelude.{◌≡◌, [], ◌∷◌, ◌++◌, List, None, Option, Some, ℕ, drop, flat_map, if◌then◌else◌, length}
use Rattle.std.specs.Prelude.{nat_le, take}
use Rattle.record_wire.specs.Words.{written}
use Rattle.record_wire.specs.Ahead.{ahead}

-- the octets do not begin with a string
abbrev pub HasNoString : List ℕ → Type 0
HasNoString octets = (string rest : List ℕ) → octets ≡ written string ++ rest → ⊥

-- the octets begin with these strings, and with no other after them
pub record AreStringsAhead (octets : List ℕ) (strings : List (List ℕ)) : Type 0 where
  pub rest : List ℕ
  pub whole : octets ≡ flat_map written strings ++ rest
  pub no_more : HasNoString rest

-- ---- as they are computed

abbrev pub first_string : List ℕ → Option (List ℕ × List ℕ)
first_string [] = None
first_string (n ∷ rest) = if nat_le n (length rest) then Some (take n rest, drop n rest) else None

abbrev pub strings_in : List ℕ → List (List ℕ)
strings_in octets = ahead first_string octets
