-- An octet after a colon.
use Rattle.std.specs.Prelude.{[], ◌∷◌, ◌++◌, List, ℕ, codes}
use Rattle.hex.specs.Hex.{encode_lower}

abbrev pub behind_colon : ℕ → List ℕ
behind_colon octet = codes ":" ++ encode_lower (octet ∷ [])
