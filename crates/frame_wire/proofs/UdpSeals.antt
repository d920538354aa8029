-- The checksum of a datagram: it holds, also where it is written as 0xffff for 0.
use Rattle.frame_wire.proofs.Words.{◌≡◌, ◌≢◌, ◌+◌, ◌-◌, ◌≤◌, ◌∙◌, ◌++◌, Addresses, IpProtocol, IsGood, List, ℕ}
use Rattle.frame_wire.proofs.Words.{ap, arith, big_bytes, big_number, checksum_field, drop, drop_at, length, number_of}
use Rattle.frame_wire.proofs.Words.{part, refl, sealed, sealed_datagram, splice, suc, sum_before, sym, take}
use Rattle.frame_wire.proofs.Words.{udp_checksum, zero}
use Rattle.std.proofs.lemmas.List.{length-take-le}
use Rattle.wirebase.specs.Bytes.{Reaches, with_field}
use Rattle.wirebase.specs.Checksum.{word_sum, fold, zeroed, checksum_of}
use Rattle.wirebase.proofs.ChecksumSeals.{word_sum-big_bytes, word_sum-splice, splice-splice}
use Rattle.wirebase.proofs.ChecksumSums.{fold_le, fold_small, fold_same, fold-add}
use Rattle.wirebase.proofs.Pieces.{length-splice}
use Rattle.frame_wire.specs.UdpText.{never_zero}

-- ---- 0xffff for 0

never_zero-some : (n : ℕ) → never_zero n ≢ 0
never_zero-some zero e = absurd (omega (arith, e))
never_zero-some (suc n) e = absurd (omega (arith, e))

never_zero-small : (n : ℕ) → n ≤ 65535 → never_zero n ≤ 65535
never_zero-small zero small = omega arith
never_zero-small (suc n) small = small

never_zero-other : (n : ℕ) → n ≢ 0 → never_zero n ≡ n
never_zero-other zero other = absurd (other refl)
never_zero-other (suc n) other = refl

-- both forms are one sum
fold-never_zero : (n checksum : ℕ) → n + checksum ≡ 65535 → fold (n + never_zero checksum) ≡ 65535
fold-never_zero n zero e =
    fold_same 65535 (n + 65535) 1 (omega arith) (omega (arith, e)) ∙ fold_small 65535 (omega arith)
fold-never_zero n (suc checksum) e = ap fold e ∙ fold_small 65535 (omega arith)

-- ---- what is in the field

-- the number that was written into it
number-written : (bytes : List ℕ) (n : ℕ) → 8 ≤ length bytes → n ≤ 65535
    → number_of checksum_field (with_field checksum_field (big_bytes 2 n) bytes) ≡ n
unfolding part splice
number-written bytes n long small =
    let place = drop_at (take 6 bytes) (big_bytes 2 n ++ drop 8 bytes) 6 (length-take-le 6 bytes (omega arith)) in
    ap (λ (l : List ℕ). big_number 2 (take 2 l)) place ∙ omega (arith, small)

module _ (addresses : Addresses) (bytes : List ℕ) (long : Reaches checksum_field bytes) where
  abbrev extra : ℕ
  extra = sum_before addresses IpProtocol.Udp (length bytes)

  abbrev others : ℕ
  others = word_sum (zeroed checksum_field bytes)

  pub checksum-small : udp_checksum addresses bytes ≤ 65535
  checksum-small = never_zero-small (checksum_of checksum_field bytes extra) (omega arith)

  pub length-sealed_datagram : length (sealed_datagram addresses bytes) ≡ length bytes
  unfolding sealed_datagram
  length-sealed_datagram =
      length-splice bytes (big_bytes 2 (udp_checksum addresses bytes)) 6 8 (omega arith) long (omega arith)

  pub checksum-some : udp_checksum addresses bytes ≢ 0
  checksum-some = never_zero-some (checksum_of checksum_field bytes extra)

  -- the checksum of a sealed datagram holds
  pub sealed-good : IsGood (sealed_datagram addresses bytes) extra
  unfolding sealed_datagram
  sealed-good =
      let checksum : ℕ = udp_checksum addresses bytes in
      let n : ℕ = fold (others + extra) in
      let most : n ≤ 65535 = fold_le (others + extra) in
      let sum : word_sum (with_field checksum_field (big_bytes 2 checksum) bytes) ≡ others + checksum =
      word_sum-splice bytes (big_bytes 2 checksum) 6 8 refl refl long refl
      ∙ ap (λ (k : ℕ). others + k) (word_sum-big_bytes checksum (omega (arith, checksum-small))) in
      let apart : word_sum (with_field checksum_field (big_bytes 2 checksum) bytes) + extra
      ≡ others + extra + checksum = omega (arith, sum) in
      ap fold apart ∙ sym (fold-add (others + extra) checksum) ∙ fold-never_zero n (65535 - n) (omega arith)

  -- what was sealed by its sum alone
  pub sealed-none : (left : List ℕ) → left ≡ sealed checksum_field bytes extra → number_of checksum_field left ≡ 0
      → splice left 6 8 (big_bytes 2 65535) ≡ sealed_datagram addresses bytes
  unfolding sealed sealed_datagram
  sealed-none left e none =
      let n : ℕ = checksum_of checksum_field bytes extra in
      let empty : n ≡ 0 =
      sym (number-written bytes n long (omega arith)) ∙ ap (λ (l : List ℕ). number_of checksum_field l) (sym e)
      ∙ none in
      ap (λ (l : List ℕ). splice l 6 8 (big_bytes 2 65535)) e
      ∙ splice-splice bytes (big_bytes 2 n) (big_bytes 2 65535) 6 8 (omega arith) long refl
      ∙ ap (λ (k : ℕ). splice bytes 6 8 (big_bytes 2 (never_zero k))) (sym empty)

  pub sealed-other : (left : List ℕ) → left ≡ sealed checksum_field bytes extra → number_of checksum_field left ≢ 0
      → left ≡ sealed_datagram addresses bytes
  unfolding sealed sealed_datagram
  sealed-other left e other =
      let n : ℕ = checksum_of checksum_field bytes extra in
      let number : number_of checksum_field left ≡ n =
      ap (λ (l : List ℕ). number_of checksum_field l) e ∙ number-written bytes n long (omega arith) in
      e
      ∙ ap (λ (k : ℕ). splice bytes 6 8 (big_bytes 2 k))
      (sym (never_zero-other n (λ none. other (number ∙ none))))
