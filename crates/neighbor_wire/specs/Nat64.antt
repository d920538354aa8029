-- The lengths of NAT64 prefixes (RFC 8781 section 4).
use Rattle.std.specs.Prelude.{ℕ, ◌-◌, List, [], ◌∷◌, take, drop, replicate}
use Rattle.wirebase.specs.ByteWriter.{be8, fields}
use Rattle.neighbor_wire.specs.declared.nat64.Nat64Length.{Nat64Length}

abbrev pub length_code : Nat64Length → ℕ
length_code Nat64Length.Bits96 = 0
length_code Nat64Length.Bits64 = 1
length_code Nat64Length.Bits56 = 2
length_code Nat64Length.Bits48 = 3
length_code Nat64Length.Bits40 = 4
length_code Nat64Length.Bits32 = 5

abbrev pub length_bits : Nat64Length → ℕ
length_bits Nat64Length.Bits96 = 96
length_bits Nat64Length.Bits64 = 64
length_bits Nat64Length.Bits56 = 56
length_bits Nat64Length.Bits48 = 48
length_bits Nat64Length.Bits40 = 40
length_bits Nat64Length.Bits32 = 32

-- The address of IPv6 that stands for an address of IPv4 (RFC 6052 section 2.2): the octets of the prefix and those of
-- the address, with a zero at place 8, and zeros behind them.
abbrev pub split_fields : ℕ → List ℕ → List ℕ → List (List ℕ)
split_fields whole prefix octets =
    take whole prefix ∷ take (8 - whole) octets ∷ be8 0 ∷ drop (8 - whole) octets ∷ replicate (11 - whole) 0 ∷ []

abbrev pub embedded_fields : Nat64Length → List ℕ → List ℕ → List (List ℕ)
embedded_fields Nat64Length.Bits96 prefix octets = prefix ∷ octets ∷ []
embedded_fields Nat64Length.Bits64 prefix octets = split_fields 8 prefix octets
embedded_fields Nat64Length.Bits56 prefix octets = split_fields 7 prefix octets
embedded_fields Nat64Length.Bits48 prefix octets = split_fields 6 prefix octets
embedded_fields Nat64Length.Bits40 prefix octets = split_fields 5 prefix octets
embedded_fields Nat64Length.Bits32 prefix octets = split_fields 4 prefix octets

abbrev pub embedded : Nat64Length → List ℕ → List ℕ → List ℕ
embedded bits prefix octets = fields (embedded_fields bits prefix octets)
