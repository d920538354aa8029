-- Texts of names that are octets, and of preferences.
use Rattle.std.specs.Prelude.{◌==◌, ◌&&◌, ◌||◌, ◌-◌, [], ◌∷◌, ◌++◌, List, ℕ, codes, decimal, flat_map}
use Rattle.std.specs.Prelude.{if◌then◌else◌, nat_le, nat_lt}
use Rattle.wirebase.specs.Hexadecimal.{encode_lower}
use Rattle.extension_wire.specs.InterfaceParts.{trimmed}

-- An octet of a name: quotation marks and backslashes are printed after a backslash, other visible characters of ASCII
-- as they are, and a space and every other octet as a backslash, an x and two hexadecimal digits.
abbrev pub character : ℕ → List ℕ
character n =
    if (n == 34) || (n == 92) then 92 ∷ n ∷ []
    else if nat_le 33 n && nat_le n 126 then n ∷ []
    else codes "\\x" ++ encode_lower (n ∷ [])

-- a name without the zeros at its end, which pad it
unfoldable pub name_text : List ℕ → List ℕ
name_text bytes = flat_map character (trimmed bytes)

-- a number of 32 bits in two's complement
abbrev pub signed_text : ℕ → List ℕ
signed_text n = if nat_lt n 2147483648 then decimal n else codes "-" ++ decimal (4294967296 - n)
