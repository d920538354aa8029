-- The addresses in bytes.
use Rattle.dhcp_wire.proofs.Words.{[], ◌<◌, ◌∷◌, ◌≡◌, ◌≤◌, List, ℕ, addresses_in, arith, drop, first_address, length}
use Rattle.dhcp_wire.proofs.Words.{refl}

pub addresses_short : (bytes : List ℕ) → length bytes < 4 → addresses_in bytes ≡ []
unfolding addresses_in
addresses_short [] short = refl
addresses_short (a ∷ []) short = refl
addresses_short (a ∷ b ∷ []) short = refl
addresses_short (a ∷ b ∷ c ∷ []) short = refl
addresses_short (a ∷ b ∷ c ∷ d ∷ rest) short = absurd (omega (arith, short))

pub addresses_more : (bytes : List ℕ) → 4 ≤ length bytes
    → addresses_in bytes ≡ first_address bytes ∷ addresses_in (drop 4 bytes)
unfolding addresses_in
addresses_more [] long = absurd (omega (arith, long))
addresses_more (a ∷ []) long = absurd (omega (arith, long))
addresses_more (a ∷ b ∷ []) long = absurd (omega (arith, long))
addresses_more (a ∷ b ∷ c ∷ []) long = absurd (omega (arith, long))
addresses_more (a ∷ b ∷ c ∷ d ∷ rest) long = refl
