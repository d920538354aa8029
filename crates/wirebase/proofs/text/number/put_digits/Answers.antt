-- Each turn puts the last two digits of what is left before the others.
use Rattle.wirebase.proofs.Words.{◌≡◌, ◌+◌, ◌-◌, append_assoc, arith, decimal_digit}
use Rattle.std.proofs.lemmas.List.{drop-set}
use Rattle.wirebase.proofs.Numbers.{digits_few, digits_one, digits_two, digits_more_two, two_alone, two_behind}
use Rattle.wirebase.proofs.text.number.put_digits.Goals as goal

pub put_two-start-requires-clause-least : goal.put_two-start-requires-clause-least
put_two-start-requires-clause-least c =
    omega (
      arith,
      digits_few c.args.number c.ranges.number.fits,
      c.loop-left.invariant.lengths,
      digits_more_two c.loop-left.left (omega arith) c.loop-left.auto.left-fits.fits,
    )

pub loop-left-preserved : goal.loop-left-preserved
loop-left-preserved c =
    let l = c.loop-left in
    let put = c.put_two-start in
    let more = digits_more_two l.left (omega arith) l.auto.left-fits.fits in
    record {
      bound = omega (arith, l.invariant.bound, put.ensures.place);
      room = put.array_long;
      lengths = omega (arith, more, l.invariant.lengths, put.ensures.place);
      digits =
          rw put.ensures.digits
          (rw (two_behind l.left (omega arith) l.auto.left-fits.fits, append_assoc) at l.invariant.digits);
    }

pub put_two-requires-clause-least : goal.put_two-requires-clause-least
put_two-requires-clause-least c =
    omega (
      arith,
      digits_few c.args.number c.ranges.number.fits,
      c.loop-left.invariant.lengths,
      digits_two c.loop-left.left (omega arith) (omega arith),
    )

pub returns-then-left-ge10-clause-digits : goal.returns-then-left-ge10-clause-digits
returns-then-left-ge10-clause-digits c =
    let l = c.loop-left in
    rw c.put_two.ensures.digits (rw (two_alone l.left (omega arith) (omega arith)) at l.invariant.digits)

pub overflow_sub-start : goal.overflow_sub-start
overflow_sub-start c =
    omega (
      arith,
      digits_few c.args.number c.ranges.number.fits,
      c.loop-left.invariant.lengths,
      digits_one c.loop-left.left (omega arith),
    )

pub returns-clause-digits : goal.returns-clause-digits
returns-clause-digits c =
    let l = c.loop-left in
    let few = digits_few c.args.number c.ranges.number.fits in
    let one = digits_one l.left (omega arith) in
    let next : l.start - 1 + 1 ≡ l.start = omega (arith, few, one, l.invariant.lengths) in
    rw (drop-set l.room (l.start - 1) _ (omega (arith, few, one, l.invariant.lengths, l.invariant.room)), next)
    (rw (decimal_digit l.left (omega arith)) at l.invariant.digits)
