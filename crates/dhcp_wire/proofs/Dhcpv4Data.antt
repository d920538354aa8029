-- How many bytes the data of options take.
use Rattle.dhcp_wire.proofs.Words.{[], ◌*◌, ◌∙◌, ◌∷◌, ◌≡◌, Ipv4Address, List, Sheet, ℕ, ap, arith, be16, be32, be8}
use Rattle.dhcp_wire.proofs.Words.{common_steps, fields, flat_map, flat_map-cons, length, length-append}
use Rattle.dhcp_wire.proofs.Words.{length-big_bytes, octets_of, put, put-append, put-fields, refl, whole-sheet}

pub be8-len : (n : ℕ) → length (be8 n) ≡ 1
unfolding be8
be8-len n = refl

pub be16-len : (n : ℕ) → length (be16 n) ≡ 2
unfolding be16
be16-len n = length-big_bytes 2 n

pub be32-len : (n : ℕ) → length (be32 n) ≡ 4
unfolding be32
be32-len n = length-big_bytes 4 n

pub octets-len : (xs : List Ipv4Address) → length (flat_map octets_of xs) ≡ 4 * length xs
octets-len [] = refl
octets-len (x ∷ xs) =
    omega (
      arith,
      octets-len xs,
      ap length (flat_map-cons octets_of x xs),
      length-append (octets_of x) (flat_map octets_of xs),
    )

-- ---- addresses, written one after another

pub put-more : (s : Sheet) (x : Ipv4Address) (xs : List Ipv4Address)
    → put s (flat_map octets_of (x ∷ xs)) ≡ put (put s (octets_of x)) (flat_map octets_of xs)
put-more s x xs =
    ap (λ (text : List ℕ). put s text) (flat_map-cons octets_of x xs)
    ∙ put-append s (octets_of x) (flat_map octets_of xs)

pub put-none : (s : Sheet) → put s (flat_map octets_of []) ≡ s
unfolding fields
put-none s = put-fields s []

pub ruleset addresses = (common_steps, octets-len, put-more, put-none, whole-sheet)

pub ruleset lengths = (common_steps, be8-len, be16-len, be32-len, octets-len)
