-- Addresses of IPv6 that stand for addresses of IPv4.
use Rattle.std.proofs.Common.{◌≡◌, ℕ, ◌-◌, ◌≤◌, List, [], ◌∷◌, ◌++◌, length, take, drop, replicate, sym, ◌∙◌, arith}
use Rattle.std.proofs.Common.{length-append}
use Rattle.std.proofs.lemmas.List.{length-drop, length-take-le, length-replicate, append-nil}
use Rattle.wirebase.specs.Bytes.{over}
use Rattle.wirebase.specs.ByteWriter.{be8, fields}
use Rattle.wirebase.proofs.Pieces.{over-exact}
use Rattle.neighbor_wire.specs.declared.nat64.Nat64Length.{Nat64Length}
use Rattle.neighbor_wire.specs.Nat64.{split_fields, embedded_fields}

-- octets alone
pub one_field : (octets : List ℕ) → fields (octets ∷ []) ≡ octets
unfolding fields
one_field octets = append-nil octets

module _ (prefix octets : List ℕ) (twelve : length prefix ≡ 12) (four : length octets ≡ 4) where
  length-split : (whole : ℕ) → 4 ≤ whole → whole ≤ 8 → length (fields (split_fields whole prefix octets)) ≡ 16
  unfolding fields be8
  length-split whole some few =
      let zeros : List ℕ = replicate (11 - whole) 0 in
      omega (
        arith,
        some,
        few,
        length-append (take whole prefix) (take (8 - whole) octets ++ (0 ∷ (drop (8 - whole) octets ++ (zeros ++ [])))),
        length-append (take (8 - whole) octets) (0 ∷ (drop (8 - whole) octets ++ (zeros ++ []))),
        length-append (drop (8 - whole) octets) (zeros ++ []),
        length-append zeros [],
        length-replicate {A = ℕ} (11 - whole) 0,
        length-take-le whole prefix (omega (arith, few, twelve)),
        length-take-le (8 - whole) octets (omega (arith, some, four)),
        length-drop (8 - whole) octets,
        four,
      )

  length-embedded : (bits : Nat64Length) → length (fields (embedded_fields bits prefix octets)) ≡ 16
  unfolding fields
  length-embedded Nat64Length.Bits96 =
      omega (arith, twelve, four, length-append prefix (octets ++ []), length-append octets [])
  length-embedded Nat64Length.Bits64 = length-split 8 (omega arith) (omega arith)
  length-embedded Nat64Length.Bits56 = length-split 7 (omega arith) (omega arith)
  length-embedded Nat64Length.Bits48 = length-split 6 (omega arith) (omega arith)
  length-embedded Nat64Length.Bits40 = length-split 5 (omega arith) (omega arith)
  length-embedded Nat64Length.Bits32 = length-split 4 (omega arith) (omega arith)

  -- over octets of an address, it is all that is left
  pub over_embedded : (bits : Nat64Length) (old : List ℕ) → length old ≡ 16
      → over old (fields (embedded_fields bits prefix octets)) ≡ fields (embedded_fields bits prefix octets)
  over_embedded bits old sixteen =
      over-exact old (fields (embedded_fields bits prefix octets)) (sixteen ∙ sym (length-embedded bits))
