-- Whole addresses in bytes, taken one after another.
use Rattle.dhcp_wire.proofs.Words.{[], ◌++◌, ◌+◌, ◌-◌, ◌<◌, ◌∙◌, ◌∷◌, ◌≡◌, ◌≤◌, Ipv4Address, List, ℕ, addresses_in, ap}
use Rattle.dhcp_wire.proofs.Words.{append-nil, append_assoc, arith, drop, first_address, length, octets_of, refl, suc}
use Rattle.dhcp_wire.proofs.Words.{sym, take, zero}
use Rattle.dhcp_wire.proofs.Dhcpv4OptionAddresses.{addresses_short}

address-more : (bytes : List ℕ) (address : Ipv4Address) → 4 ≤ length bytes → octets_of address ≡ take 4 bytes
    → addresses_in bytes ≡ address ∷ addresses_in (drop 4 bytes)
unfolding addresses_in
address-more [] address long e = absurd (omega (arith, long))
address-more (a ∷ []) address long e = absurd (omega (arith, long))
address-more (a ∷ b ∷ []) address long e = absurd (omega (arith, long))
address-more (a ∷ b ∷ c ∷ []) address long e = absurd (omega (arith, long))
address-more (a ∷ b ∷ c ∷ d ∷ rest) address long e =
    ap (λ (l : List ℕ). first_address l ∷ addresses_in rest) (sym e)

take-none : (n : ℕ) → take {A = Ipv4Address} n [] ≡ []
take-none zero = refl
take-none (suc n) = refl

-- one more address is taken
pub taken-more : (items more : List Ipv4Address) (address : Ipv4Address) (rest after : List ℕ)
    (whole : List Ipv4Address) → length items < 5
    → more ≡ items ++ address ∷ [] → 4 ≤ length rest → octets_of address ≡ take 4 rest → after ≡ drop 4 rest
    → items ++ take (5 - length items) (addresses_in rest) ≡ whole
    → more ++ take (5 - (length items + 1)) (addresses_in after) ≡ whole
taken-more items more address rest after whole l is room first last so_far =
    let left : ℕ = 5 - (length items + 1) in
    let count : 5 - length items ≡ suc left = omega arith in
    ap (λ (xs : List Ipv4Address). xs ++ take left (addresses_in after)) is
    ∙ ap (λ (b : List ℕ). (items ++ address ∷ []) ++ take left (addresses_in b)) last
    ∙ append_assoc items (address ∷ []) (take left (addresses_in (drop 4 rest)))
    ∙ ap (λ (xs : List Ipv4Address). items ++ take (suc left) xs) (sym (address-more rest address room first))
    ∙ ap (λ (n : ℕ). items ++ take n (addresses_in rest)) (sym count) ∙ so_far

-- no more is: there is no whole one, or no room
pub taken-short : (items whole : List Ipv4Address) (most : ℕ) (rest : List ℕ) → length rest < 4
    → items ++ take most (addresses_in rest) ≡ whole → items ≡ whole
taken-short items whole most rest l so_far =
    sym (append-nil items) ∙ ap (λ (xs : List Ipv4Address). items ++ xs) (sym (take-none most))
    ∙ ap (λ (xs : List Ipv4Address). items ++ take most xs) (sym (addresses_short rest l)) ∙ so_far

pub taken-full : (items whole : List Ipv4Address) (rest : List ℕ) → length items ≡ 5
    → items ++ take (5 - length items) (addresses_in rest) ≡ whole → items ≡ whole
taken-full items whole rest e so_far =
    let none : 5 - length items ≡ 0 = omega arith in
    sym (append-nil items) ∙ ap (λ (n : ℕ). items ++ take n (addresses_in rest)) (sym none) ∙ so_far
