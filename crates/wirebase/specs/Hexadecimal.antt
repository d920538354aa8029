-- Octets as lower-case hexadecimal digits, two for each.
use Rattle.std.specs.Prelude.{ℕ, List, [], ◌∷◌, ◌++◌, codes, flat_map}
pub use Rattle.hex.specs.Hex.{encode_lower}

-- with colons between the octets
abbrev pub hex_colons : List ℕ → List ℕ
hex_colons [] = []
hex_colons (byte ∷ rest) = encode_lower (byte ∷ []) ++ flat_map (λ next. codes ":" ++ encode_lower (next ∷ [])) rest

-- no octets as a dash
abbrev pub octets_text : List ℕ → List ℕ
octets_text [] = codes "-"
octets_text (byte ∷ rest) = encode_lower (byte ∷ rest)
