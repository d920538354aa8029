-- What shifts and masks make of the code of the maximum response time of a query.
use Rattle.std.proofs.Common.{◌≡◌, ℕ, ◌+◌, ◌*◌, ◌/◌, ◌%◌, ◌^◌, ◌<◌, ◌≤◌, true, false, nat_lt, bit_and, bit_or, lit<}
use Rattle.std.proofs.Common.{refl, arith}
use Rattle.std.proofs.lemmas.Nat.{and_mask, or_shifted, mul-le}
use Rattle.std.proofs.Math.Nat.{pow-le-pow_right, mod-eq_of_lt}
use Rattle.icmp6_wire.specs.MldPacket.{resp_millis}

pub plain_millis : (code : ℕ) → code < 32768 → 1000 * code ≡ 1000 * resp_millis code
unfolding resp_millis
plain_millis code h = let small : nat_lt code 32768 ≡ true = grind arith in rw small refl

pub floating_millis : (code : ℕ) → 32768 ≤ code → code < 65536
    → (bit_or 4096 (bit_and code 4095) * 2 ^ (bit_and (code / 4096) 7 + 3) % 2 ^ 64 ≤ 18446744073709551)
    × (1000 * (bit_or 4096 (bit_and code 4095) * 2 ^ (bit_and (code / 4096) 7 + 3) % 2 ^ 64)
    ≡ 1000 * resp_millis code)
unfolding resp_millis
floating_millis code h k =
    let e : ℕ = code / 4096 % 8 in
    let m : ℕ = code % 4096 in
    let large : nat_lt code 32768 ≡ false = grind arith in
    let low : bit_and code 4095 ≡ m = and_mask code 12 in
    let high : bit_and (code / 4096) 7 ≡ e = and_mask (code / 4096) 3 in
    let one : bit_or 4096 m ≡ 4096 + m = or_shifted 1 12 m (omega arith) in
    let last : e + 3 ≤ 10 = omega arith in
    let power : 2 ^ (e + 3) ≤ 2 ^ 10 = pow-le-pow_right (lit< tt) last in
    let bound : (4096 + m) * 2 ^ (e + 3) ≤ 8191 * 2 ^ 10 =
    mul-le (4096 + m) (2 ^ (e + 3)) 8191 (2 ^ 10) (omega arith) power in
    let whole : (4096 + m) * 2 ^ (e + 3) % 2 ^ 64 ≡ (4096 + m) * 2 ^ (e + 3) = mod-eq_of_lt (omega arith) in
    rw (low, high, one, whole, large) (omega arith, refl)

pub ruleset times = (plain_millis, floating_millis)
