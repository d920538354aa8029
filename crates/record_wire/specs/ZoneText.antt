-- The parts of a record in a zone file (RFC 1035 section 5.1, RFC 3597 section 5, RFC 4648 section 4).
use Rattle.std.specs.Prelude.{◌+◌, ◌-◌, ◌*◌, ◌/◌, ◌%◌, ◌==◌, [], ◌∷◌, ◌++◌, List, ℕ, codes, decimal, flat_map}
use Rattle.std.specs.Prelude.{if◌then◌else◌, length, map, nat_le}
use Rattle.record_wire.specs.Words.{encode_lower}
use Rattle.record_wire.specs.Escapes.{escaped}
use Rattle.record_wire.specs.NameText.{name_text}
use Rattle.record_wire.specs.declared.escapes.Escaping.{Escaping}

-- a word after a space
unfoldable pub word : List ℕ → List ℕ
word text = codes " " ++ text

-- a name ends in a dot, and the root is a dot
unfoldable pub whole_name : List (List ℕ) → List ℕ
whole_name [] = codes "."
whole_name (label ∷ labels) = name_text (label ∷ labels) ++ codes "."

-- ---- strings

-- a string in quotes
unfoldable pub string_text : List ℕ → List ℕ
string_text string = codes "\"" ++ flat_map (escaped Escaping.String) string ++ codes "\""

-- strings, each after a space
abbrev pub string_words : List (List ℕ) → List ℕ
string_words strings = flat_map (λ string. word (string_text string)) strings

-- strings with spaces between them
abbrev pub strings_text : List (List ℕ) → List ℕ
strings_text [] = []
strings_text (first ∷ rest) = string_text first ++ string_words rest

-- ---- data of any type: `\#`, the number of bytes, and these in hexadecimal where there are any (RFC 3597 section 5)

abbrev pub digits_word : List ℕ → List ℕ
digits_word [] = []
digits_word (byte ∷ rest) = word (encode_lower (byte ∷ rest))

abbrev pub generic_text : List ℕ → List ℕ
generic_text bytes = codes "\\#" ++ word (decimal (length bytes)) ++ digits_word bytes

-- ---- bytes in base64 (RFC 4648 section 4)

-- the character of six bits; for 64, that of padding
unfoldable pub base64_digit : ℕ → ℕ
base64_digit six =
    if nat_le six 25 then 65 + six
    else if nat_le six 51 then 97 + (six - 26)
    else if nat_le six 61 then 48 + (six - 52)
    else if six == 62 then 43
    else if six == 63 then 47
    else 61

-- three bytes as numbers of six bits, and the last one or two bytes with padding
abbrev pub sixes_of : List ℕ → List ℕ
sixes_of [] = []
sixes_of (a ∷ []) = a / 4 ∷ a % 4 * 16 ∷ 64 ∷ 64 ∷ []
sixes_of (a ∷ b ∷ []) = a / 4 ∷ (a % 4 * 16 + b / 16) ∷ b % 16 * 4 ∷ 64 ∷ []
sixes_of (a ∷ b ∷ c ∷ rest) = a / 4 ∷ (a % 4 * 16 + b / 16) ∷ (b % 16 * 4 + c / 64) ∷ c % 64 ∷ sixes_of rest

unfoldable pub base64 : List ℕ → List ℕ
base64 bytes = map base64_digit (sixes_of bytes)
