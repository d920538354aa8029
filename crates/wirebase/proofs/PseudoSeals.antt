-- Checksums that count a pseudo header: its sum may be folded first.
use Rattle.wirebase.proofs.Words.{◌≡◌, ◌+◌, ◌-◌, ◌∙◌, Field, IsGood, List, ℕ, ap, arith, big_bytes, fold, sealed, sym}
use Rattle.wirebase.proofs.Words.{with_field, word_sum, zeroed}
use Rattle.wirebase.proofs.ChecksumSums.{fold-add}

pub fold-after : (n extra : ℕ) → fold (n + fold extra) ≡ fold (n + extra)
fold-after n extra =
    let turned : n + fold extra ≡ fold extra + n = omega arith in
    let back : extra + n ≡ n + extra = omega arith in
    ap (λ (k : ℕ). fold k) turned ∙ fold-add extra n ∙ ap (λ (k : ℕ). fold k) back

pub sealed-fold : (f : Field) (bytes : List ℕ) (extra : ℕ) → sealed f bytes (fold extra) ≡ sealed f bytes extra
unfolding sealed
sealed-fold f bytes extra =
    ap (λ (n : ℕ). with_field f (big_bytes 2 (65535 - n)) bytes) (fold-after (word_sum (zeroed f bytes)) extra)

pub IsGood-fold : (bytes : List ℕ) (extra : ℕ) → IsGood bytes (fold extra) → IsGood bytes extra
IsGood-fold bytes extra good = sym (fold-after (word_sum bytes) extra) ∙ good

pub IsGood-unfold : (bytes : List ℕ) (extra : ℕ) → IsGood bytes extra → IsGood bytes (fold extra)
IsGood-unfold bytes extra good = fold-after (word_sum bytes) extra ∙ good

pub ruleset pseudo_seals = (sealed-fold, IsGood-fold, IsGood-unfold)
