-- NetBIOS names in messages (RFC 1001 sections 14.1 and 14.2, RFC 1002 section 4.1).
use Rattle.std.specs.Prelude.{zero, suc, ◌+◌, ◌-◌, ◌*◌, ◌==◌, ◌&&◌, [], ◌∷◌, ◌++◌, Bool, List, ℕ, codes, drop}
use Rattle.std.specs.Prelude.{if◌then◌else◌, length, nat_le, slice_index, take}
use Rattle.std.specs.List.{list_all}
use Rattle.wirebase.specs.Hexadecimal.{encode_lower}
use Rattle.record_wire.specs.NameText.{behind_dots, label_text}
use Rattle.record_wire.specs.ZoneText.{whole_name}

-- ---- the first label: each of 16 bytes is two letters, the upper four bits and the lower, from A for 0 to P for 15

abbrev pub is_letter : ℕ → Bool
is_letter c = nat_le 65 c && nat_le c 80

abbrev pub is_encoded : List ℕ → Bool
is_encoded label = length label == 32 && list_all is_letter label

abbrev pub decoded : List ℕ → List ℕ
decoded [] = []
decoded (letter ∷ []) = []
decoded (high ∷ low ∷ rest) = (16 * (high - 65) + (low - 65)) ∷ decoded rest

-- ---- texts

-- the number of the first n bytes without the spaces at their end
abbrev pub len_without_spaces : List ℕ → ℕ → ℕ
len_without_spaces bytes zero = 0
len_without_spaces bytes (suc n) = if slice_index bytes n == 32 then len_without_spaces bytes n else suc n

abbrev pub without_spaces : List ℕ → List ℕ
without_spaces bytes = take (len_without_spaces bytes (length bytes)) bytes

-- 16 bytes: a name, and what it is of
abbrev pub bytes_text : List ℕ → List ℕ
bytes_text bytes =
    label_text (without_spaces (take 15 bytes)) ++ (codes "<" ++ (encode_lower (drop 15 bytes) ++ codes ">"))

-- A name whose first label is such letters has a scope after it; any other is as DNS has it.
abbrev pub name_text : List (List ℕ) → List ℕ
name_text [] = whole_name []
name_text (first ∷ scope) =
    if is_encoded first then bytes_text (decoded first) ++ behind_dots scope else whole_name (first ∷ scope)
