-- What follows the name of an interface, in octets that begin with one where it was read.
use Rattle.std.specs.Prelude.{◌≤◌, List, None, Option, Some, drop, length, ℕ}
use Rattle.extension_wire.specs.InterfaceParts.{name_len_in}

-- the name is all there, by the length in front of it
abbrev pub HasName : Option (List ℕ) → List ℕ → Type 0
HasName None bytes = Unit {0}
HasName (Some name) bytes = (1 ≤ length bytes) × (name_len_in bytes ≤ length bytes)

abbrev pub behind_name : Option (List ℕ) → List ℕ → List ℕ
behind_name None bytes = bytes
behind_name (Some name) bytes = drop (name_len_in bytes) bytes
