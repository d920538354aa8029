-- After the digits of the tenth, or in place of the digit of a tenth that is 0.
use Rattle.wirebase.proofs.Words.{◌≡◌, ◌+◌, ◌/◌, ◌%◌, ◌<◌, ◌≤◌, ⊎_elim, arith, cases_lt, decimal, decimal_digit}
use Rattle.wirebase.proofs.Words.{decimal_step, le-leb, lt-leb, refl}
use Rattle.wirebase.proofs.Rooms.{behind_others, over_zero}
use Rattle.wirebase.proofs.text.digits.next_digit.Goals as goal

pub returns-clause-text : goal.returns-clause-text
returns-clause-text c before front =
    let n = c.args.number in
    ⊎_elim
    (λ (one : n < 10).
    let none : n / 10 ≡ 0 = omega arith in
    let last : n % 10 ≡ n = omega arith in
    over_zero c.args.room.now before (decimal (n / 10)) (decimal n) c.args.at _ 48 (48 + n % 10)
    (rw (lt-leb 10 n one) (omega arith)) (rw (lt-leb 10 n one) (omega (arith, c.told-room, c.requires)))
    (rw none (decimal_digit 0 (omega arith))) (rw last (decimal_digit n one)) front)
    (λ (more : 10 ≤ n).
    behind_others c.args.room.now before (decimal (n / 10)) (decimal n) c.args.at _ (48 + n % 10)
    (rw (le-leb 10 n more) refl) (rw (le-leb 10 n more) (omega (arith, c.told-room, c.requires)))
    (decimal_step n more (omega (arith, c.ranges.number.fits))) front)
    (cases_lt n 10)
