-- The word of flags: flags that have a name, and the kind of query, share no bit.
use Rattle.dns_wire.proofs.Words.{◌≡◌, ◌+◌, ◌*◌, ◌/◌, ◌%◌, ◌<◌, ◌≤◌, ◌∙◌, IsKnown, ℕ, ap, arith, flags_in, opcode_in}
use Rattle.dns_wire.proofs.Words.{sym}
use Rattle.std.specs.Int.Bits.{bit_and}
use Rattle.std.proofs.lemmas.Nat.{and_comm, and_le_r, and_shr, and_mod, and_block, and_assoc, or_disjoint, and_or_apart}
use Rattle.dns_wire.specs.DnsTables.{known_bits}

pub known-small : (flags : ℕ) → IsKnown flags → flags ≤ 34736
known-small flags known = omega (arith, known, and_le_r flags known_bits)

-- the four bits of the kind of query are none of the flags'
kind_free : (flags : ℕ) → IsKnown flags → flags / 2048 % 16 ≡ 0
kind_free flags known =
    let shifted : flags / 2048 ≡ bit_and (flags / 2048) 16 =
    ap (λ n. n / 2048) (sym known) ∙ and_shr flags known_bits 11 in
    let low : bit_and (flags / 2048) 16 % 16 ≡ bit_and (flags / 2048 % 16) 0 = and_mod (flags / 2048) 16 4 in
    omega (arith, ap (λ n. n % 16) shifted, low, and_le_r (flags / 2048 % 16) 0)

kind_apart : (n : ℕ) → n < 16 → bit_and n 16 ≡ 0
kind_apart n small =
    let high : bit_and n 16 / 16 ≡ bit_and (n / 16) 1 = and_shr n 16 4 in
    let none : n / 16 ≡ 0 = omega arith in
    let zero_and : bit_and (n / 16) 1 ≡ 0 = ap (λ k. bit_and k 1) none in
    let low : bit_and n 16 % 16 ≡ bit_and (n % 16) 0 = and_mod n 16 4 in
    omega (arith, high, zero_and, low, and_le_r (n % 16) 0)

bits_apart : (n : ℕ) → n < 16 → bit_and (2048 * n) known_bits ≡ 0
bits_apart n small =
    let blocks : bit_and (n * 2048 + 0) (16 * 2048 + 1968) ≡ bit_and n 16 * 2048 + bit_and 0 1968 =
    and_block 11 n 16 0 1968 (omega arith) (omega arith) in
    let left : n * 2048 + 0 ≡ 2048 * n = omega arith in
    omega (arith, ap (λ k. bit_and k known_bits) left, blocks, kind_apart n small)

-- the word holds both
pub opcode_in-word : (flags n : ℕ) → IsKnown flags → n < 16 → opcode_in (flags + 2048 * n) ≡ n
opcode_in-word flags n known small = omega (arith, kind_free flags known)

pub flags_in-word : (flags n : ℕ) → IsKnown flags → n < 16 → flags_in (flags + 2048 * n) ≡ flags
flags_in-word flags n known small =
    let apart = bits_apart n small in
    let other : bit_and known_bits (2048 * n) ≡ 0 = and_comm known_bits (2048 * n) ∙ apart in
    let shares : bit_and flags (2048 * n) ≡ 0 =
    ap (λ k. bit_and k (2048 * n)) (sym known)
    ∙ (and_assoc (2048 * n) flags known_bits ∙ (ap (λ k. bit_and flags k) other ∙ none)) in
    ap flags_in (sym (or_disjoint flags (2048 * n) shares)) ∙ (and_or_apart known_bits flags (2048 * n) apart ∙ known)
  where
    none : bit_and flags 0 ≡ 0
    none = omega (arith, and_le_r flags 0)

-- what was read is known
pub known-flags_in : (word : ℕ) → IsKnown (flags_in word)
known-flags_in word = and_assoc known_bits word known_bits

pub ruleset words = (known-small)
