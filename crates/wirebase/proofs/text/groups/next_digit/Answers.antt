-- After the digits of the sixteenth, or in place of the digit of a sixteenth that is 0.
use Rattle.wirebase.proofs.Words.{◌≡◌, ◌/◌, ◌%◌, ◌<◌, ◌≤◌, ⊎_elim, arith, cases_lt, digit_char, hex, le-leb, lt-leb}
use Rattle.wirebase.proofs.Words.{refl}
use Rattle.wirebase.proofs.Rooms.{behind_others, over_zero, hex_digit, hex_step}
use Rattle.wirebase.proofs.text.groups.next_digit.Goals as goal

pub returns-clause-text : goal.returns-clause-text
returns-clause-text c before front =
    let n = c.args.number in
    rw c.digit.ensures
    (⊎_elim
    (λ (one : n < 16).
    let none : n / 16 ≡ 0 = omega arith in
    let last : n % 16 ≡ n = omega arith in
    over_zero c.args.room.now before (hex (n / 16)) (hex n) c.args.at _ (digit_char 0) (digit_char (n % 16))
    (rw (lt-leb 16 n one) (omega arith)) (rw (lt-leb 16 n one) (omega (arith, c.told-room, c.requires)))
    (rw none (hex_digit 0 (omega arith))) (rw last (hex_digit n one)) front)
    (λ (more : 16 ≤ n).
    behind_others c.args.room.now before (hex (n / 16)) (hex n) c.args.at _ (digit_char (n % 16))
    (rw (le-leb 16 n more) refl) (rw (le-leb 16 n more) (omega (arith, c.told-room, c.requires)))
    (hex_step n more c.ranges.number.fits) front)
    (cases_lt n 16))
