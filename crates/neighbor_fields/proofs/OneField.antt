-- A text of one field.
use Rattle.std.proofs.Common.{◌≡◌, ℕ, List, [], ◌∷◌}
use Rattle.std.proofs.lemmas.List.{append-nil}
use Rattle.wirebase.specs.ByteWriter.{fields}

pub one_field : (octets : List ℕ) → fields (octets ∷ []) ≡ octets
unfolding fields
one_field octets = append-nil octets
