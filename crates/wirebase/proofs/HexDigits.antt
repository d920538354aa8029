-- Hexadecimal digits: none of no octet, those of two texts one after another, and that they are ASCII.
use Rattle.wirebase.proofs.Words.{◌≡◌, [], ◌∷◌, ◌++◌, IsAscii, List, ℕ, lower_digits, refl}
use Rattle.hex.specs.Hex.{encode_with}
use Rattle.wirebase.proofs.TextAscii.{tested-ascii}

pub encode_with-nil : (digits : List ℕ) → encode_with digits [] ≡ []
unfolding encode_with
encode_with-nil digits = refl

pub encode_with-append : (digits xs ys : List ℕ) → encode_with digits (xs ++ ys) ≡ encode_with digits xs
    ++ encode_with digits ys
unfolding encode_with
encode_with-append digits [] ys = refl
encode_with-append digits (x ∷ xs) ys = rw (encode_with-append digits xs ys) refl

pub lower-ascii : IsAscii lower_digits
lower-ascii = tested-ascii lower_digits refl
