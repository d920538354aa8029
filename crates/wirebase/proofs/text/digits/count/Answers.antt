-- One digit, two or three.
use Rattle.wirebase.proofs.Words.{◌/◌, ◌<◌, ◌≤◌, ⊎_elim, arith, cases_lt, le-leb, lt-leb, refl}
use Rattle.wirebase.proofs.Numbers.{digits_one, digits_two, digits_more_two}
use Rattle.wirebase.proofs.text.digits.count.Goals as goal

pub returns-clause-value : goal.returns-clause-value
returns-clause-value c =
    let n = c.args.number in
    let fits = c.ranges.number.fits in
    ⊎_elim
    (λ (few : n < 10). rw (lt-leb 10 n few, lt-leb 100 n (omega arith), digits_one n few) refl)
    (λ (more : 10 ≤ n).
    ⊎_elim
    (λ (few : n < 100). rw (le-leb 10 n more, lt-leb 100 n few, digits_two n more few) refl)
    (λ (large : 100 ≤ n).
    let one = digits_one (n / 100) (omega (arith, fits)) in
    rw (le-leb 10 n more, le-leb 100 n large, digits_more_two n large (omega (arith, fits)), one) refl)
    (cases_lt n 100))
    (cases_lt n 10)
