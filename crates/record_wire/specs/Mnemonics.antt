-- The mnemonics of classes, of IANA's registry of DNS parameters, and what is written where there is none
-- (RFC 3597 section 5).
use Rattle.std.specs.Prelude.{[], ◌∷◌, List, ℕ, codes}
use Rattle.record_wire.specs.Words.{name_in, name_or}

abbrev pub class_names : List (List ℕ × ℕ)
class_names = (codes "IN", 1) ∷ (codes "CH", 3) ∷ (codes "HS", 4) ∷ (codes "NONE", 254) ∷ (codes "ANY", 255) ∷ []

unfoldable pub class_text : ℕ → List ℕ
class_text n = name_or (codes "CLASS") (name_in class_names n) n
