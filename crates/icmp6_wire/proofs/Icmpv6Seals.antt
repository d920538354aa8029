-- Sealing a message keeps its length, and all of its bytes but the checksum.
use Rattle.std.proofs.Common.{◌≡◌, ℕ, ◌≤◌, true, List, ◌∷◌, length, refl}
use Rattle.icmp6_wire.specs.Words.{splice, is_computed, sealed_where, IsGood, sealed, checksum_field, Checksum}
use Rattle.wirebase.proofs.ChecksumSeals.{length-sealed, IsGood-sealed}

pub length-sealed_message : (bytes : List ℕ) (extra : ℕ) → 4 ≤ length bytes
    → length (sealed checksum_field bytes extra) ≡ length bytes
length-sealed_message bytes extra some = length-sealed checksum_field bytes extra refl some

-- what is computed is good
pub good-seal : (checksum : Checksum) (bytes : List ℕ) (extra : ℕ) → 4 ≤ length bytes → is_computed checksum ≡ true
    → IsGood (sealed_where checksum checksum_field bytes extra) extra
good-seal Checksum.Both bytes extra some computed = IsGood-sealed checksum_field bytes extra refl some refl
good-seal Checksum.Rx bytes extra some computed = cc
good-seal Checksum.Tx bytes extra some computed = IsGood-sealed checksum_field bytes extra refl some refl
good-seal Checksum.None bytes extra some computed = cc

pub ruleset lengths = (length-sealed_message)

-- bytes with this type and this code, with any checksum, and with these bytes after it
pub record Begins (bytes : List ℕ) (t code : ℕ) (rest : List ℕ) : Type 0 where
  pub first : ℕ
  pub second : ℕ
  pub whole : bytes ≡ t ∷ code ∷ first ∷ second ∷ rest

pub sealed-begins : (checksum : Checksum) (bytes : List ℕ) (extra t code : ℕ) (rest : List ℕ)
    → bytes ≡ t ∷ code ∷ 0 ∷ 0 ∷ rest → Begins (sealed_where checksum checksum_field bytes extra) t code rest
unfolding sealed splice
sealed-begins Checksum.Both bytes extra t code rest e = rw e (record { first = _; second = _; whole = refl })
sealed-begins Checksum.Rx bytes extra t code rest e = record { first = 0; second = 0; whole = e }
sealed-begins Checksum.Tx bytes extra t code rest e = rw e (record { first = _; second = _; whole = refl })
sealed-begins Checksum.None bytes extra t code rest e = record { first = 0; second = 0; whole = e }
