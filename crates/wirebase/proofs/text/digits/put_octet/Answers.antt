-- Four octets are copied, of which the digits and a dot count.
use Rattle.wirebase.proofs.Words.{◌≡◌, ◌+◌, ◌-◌, ◌≤◌, ◌++◌, ◌∙◌, IsAscii-decimal, ap, arith, codes, decimal, drop}
use Rattle.wirebase.proofs.Words.{length, length-drop, take, take-append-add, take-take}
use Rattle.std.proofs.Common.{length-take-le}
use Rattle.wirebase.proofs.Rooms.{four_put}
use Rattle.wirebase.proofs.text.digits.put_octet.Goals as goal

pub returns-clause-text : goal.returns-clause-text
returns-clause-text c =
    let room = c.args.room.now in
    let at = c.args.at in
    let digits = decimal c.args.number in
    let copied = c.copy_from_slice in
    let few : length digits + 1 ≤ 4 = omega (arith, c.count.ensures.value, c.count.ensures.bound) in
    let fits : at + 4 ≤ length room = omega (arith, c.told-room, c.requires) in
    let there : at + 4 - at ≡ 4 = omega arith in
    let long = rw there at copied.ensures.len ∙ length-take-le 4 (drop at room) (omega (arith, length-drop at room)) in
    let text = ap (take (length digits + 1)) (copied.ensures.after ∙ c.digits_and_dots.ensures)
    ∙ take-take (length digits + 1) 4 (digits ++ codes "...") few ∙ take-append-add digits (codes "...") 1 in
    rw there
    (four_put room copied.new.self _ at (length digits + 1) (at + c.count.result + 1) fits long few
    (omega (arith, c.count.ensures.value)) text)

pub returns-clause-ascii : goal.returns-clause-ascii
returns-clause-ascii c = IsAscii-decimal c.args.number (omega (arith, c.ranges.number.fits))
