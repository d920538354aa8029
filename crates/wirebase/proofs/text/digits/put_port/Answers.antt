-- The first digit, and each further one after it or in its place.
use Rattle.wirebase.proofs.Words.{◌≡◌, ◌+◌, ◌/◌, IsAscii-decimal, arith, decimal_digit, take, take_more_set}
use Rattle.wirebase.proofs.text.digits.put_port.Goals as goal

pub returns-clause-text : goal.returns-clause-text
returns-clause-text c =
    let n = c.args.port in
    let before = take c.args.at c.args.room.now in
    let one = decimal_digit (n / 10000) (omega (arith, c.ranges.port.fits)) in
    let first = take_more_set c.args.room.now c.args.at (48 + n / 10000) (omega (arith, c.told-room, c.requires)) in
    let tenth : n / 1000 / 10 ≡ n / 10000 = omega arith in
    let thousands = c.next_digit-thousands.ensures.text before (rw (tenth, one) first) in
    let tenth : n / 100 / 10 ≡ n / 1000 = omega arith in
    let hundreds = c.next_digit-hundreds.ensures.text before (rw tenth thousands) in
    let tenth : n / 10 / 10 ≡ n / 100 = omega arith in
    let tens = c.next_digit-tens.ensures.text before (rw tenth hundreds) in
    c.next_digit-ones.ensures.text before tens

pub returns-clause-ascii : goal.returns-clause-ascii
returns-clause-ascii c = IsAscii-decimal c.args.port (omega (arith, c.ranges.port.fits))
