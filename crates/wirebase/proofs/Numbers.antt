-- The digits of numbers.
use Rattle.wirebase.proofs.Words.{◌≡◌, ◌+◌, ◌-◌, ◌/◌, ◌%◌, ◌^◌, ◌<◌, ◌≤◌, ◌++◌, ◌∙◌, ℕ, ap, append_assoc, arith}
use Rattle.wirebase.proofs.Words.{decimal, decimal_digit, decimal_step, last_digits, length, length-append, refl}
use Rattle.std.proofs.lemmas.Fmt.{length-decimal-le}

-- how many digits a number has: few
pub digits_few : (n : ℕ) → n < 2 ^ 64 → length (decimal n) ≤ 20
digits_few n fits = length-decimal-le 20 n (omega arith) (omega (arith, fits)) fits

pub digits_one : (n : ℕ) → n < 10 → length (decimal n) ≡ 1
digits_one n one = ap length (decimal_digit n one)

-- a number of two digits, and one of more
pub two_alone : (n : ℕ) → 10 ≤ n → n < 100 → decimal n ≡ last_digits 2 n
two_alone n more few =
    let ten : n / 10 % 10 ≡ n / 10 = omega arith in
    rw (decimal_step n more (omega arith), decimal_digit (n / 10) (omega arith), ten) refl

pub two_behind : (n : ℕ) → 100 ≤ n → n < 2 ^ 64 → decimal n ≡ decimal (n / 100) ++ last_digits 2 n
two_behind n more fits =
    let hundred : n / 10 / 10 ≡ n / 100 = omega arith in
    rw (decimal_step n (omega arith) fits, decimal_step (n / 10) (omega arith) (omega arith), hundred)
    (simp append_assoc)

-- how many digits these have: two, and two more than those of its hundredth
pub digits_two : (n : ℕ) → 10 ≤ n → n < 100 → length (decimal n) ≡ 2
digits_two n more few = ap length (two_alone n more few)

pub digits_more_two : (n : ℕ) → 100 ≤ n → n < 2 ^ 64 → length (decimal n) ≡ length (decimal (n / 100)) + 2
digits_more_two n more fits = ap length (two_behind n more fits) ∙ length-append _ _
