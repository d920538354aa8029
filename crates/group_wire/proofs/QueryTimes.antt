-- Times of queries: the longest interval, and the code of a response time in two bytes.
use Rattle.std.proofs.Common.{◌≡◌, ℕ, ◌<◌, ◌≤◌, List, [], ◌∷◌, inl, inr, arith}
use Rattle.std.specs.Int.{w16, to_be_bytes}
use Rattle.std.specs.Prelude.{slice_index}
use Rattle.std.proofs.lemmas.Bool.{cases_lt}
use Rattle.byteorder.specs.Endian.{big_number}
use Rattle.byteorder.specs.Numbers.{big_number-reads_back}
use Rattle.icmp4_wire.specs.IgmpCode.{code_millis}

pub longest : ((a b : ℕ) → a < b → b < 256 → code_millis a < code_millis b) → (code : ℕ) → code < 256
    → code_millis code ≤ 3174400
unfolding code_millis
longest rises code small =
    elim (cases_lt code 255) [
      | inl less ↦ omega (arith, rises code 255 less (omega arith))
      | inr last ↦ let same : code ≡ 255 = omega (arith, small, last) in rw same (omega arith)
    ]

pub code_read : (code : ℕ) (b : List ℕ) → code < 65536 → b ≡ to_be_bytes w16 code
    → big_number 2 (slice_index b 0 ∷ slice_index b 1 ∷ []) ≡ code
code_read code b small e = rw e (big_number-reads_back 2 code [] (omega (arith, small)))
