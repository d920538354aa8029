-- Times in ascending order.
use Rattle.std.proofs.Common.{◌≡◌, ◌≤◌, ◌<◌, [], ◌∷◌, List, arith, get_or, length, refl, suc, zero, ℕ}
use Rattle.std.specs.List.{insert}
use Rattle.packet_stats.specs.Row.{with_time}

-- a time goes before the first that is greater
pub goes_before : (t : ℕ) (xs : List ℕ) (i : ℕ) → i ≤ length xs → ((k : ℕ) → k < i → get_or xs k 0 ≤ t)
    → (i < length xs → t < get_or xs i 0) → insert xs i t ≡ with_time t xs
goes_before t [] zero within before at = refl
goes_before t [] (suc i) within before at = absurd (omega (arith, within))
goes_before t (x ∷ xs) zero within before at = let less : t < x = at (omega arith) in grind arith
goes_before t (x ∷ xs) (suc i) within before at =
    let first : x ≤ t = before 0 (omega arith) in
    let more : insert xs i t ≡ with_time t xs =
    goes_before t xs i (omega arith) (λ k h. before (suc k) (omega arith)) (λ h. at (omega arith)) in grind arith
