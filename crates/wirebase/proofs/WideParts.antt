-- Fields of four bytes, and the numbers that they spell.
use Rattle.wirebase.proofs.Words.{◌≡◌, ◌+◌, ◌-◌, ◌<◌, ◌^◌, [], ◌∷◌, IsBytes, List, ℕ, arith, big_number, drop, field}
use Rattle.wirebase.proofs.Words.{number_of, part, take}
use Rattle.wirebase.proofs.ByteParts.{IsBytes-drop}

four_small : (bytes : List ℕ) → IsBytes bytes → big_number 4 (take 4 bytes) < 2 ^ 32
four_small [] are = omega arith
four_small (x ∷ []) are = let one = are 0 in omega arith
four_small (x ∷ y ∷ []) are = let one = are 0 in let two = are 1 in omega arith
four_small (x ∷ y ∷ z ∷ []) are = let one = are 0 in let two = are 1 in let three = are 2 in omega arith
four_small (x ∷ y ∷ z ∷ w ∷ rest) are = let one = are 0 in let two = are 1 in let three = are 2 in let four = are 3 in
    omega arith

-- a field of four bytes is below 2 ^ 32
pub number_of-small4 : (i j : ℕ) (bytes : List ℕ) → j ≡ i + 4 → IsBytes bytes → number_of (field i j) bytes < 2 ^ 32
unfolding part
number_of-small4 i j bytes wide are =
    let four : j - i ≡ 4 = omega arith in
    rw four (four_small (drop i bytes) (IsBytes-drop i bytes are))
