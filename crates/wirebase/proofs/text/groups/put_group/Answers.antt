-- The first digit, each further one after it or in its place, and a colon.
use Rattle.wirebase.proofs.Words.{◌≡◌, ◌+◌, ◌/◌, ◌++◌, ◌∷◌, [], ◌∙◌, ap, append_assoc, arith, take, take-set_at}
use Rattle.wirebase.proofs.Words.{take_more_set}
use Rattle.wirebase.proofs.Rooms.{hex_digit}
use Rattle.wirebase.proofs.text.groups.put_group.Goals as goal

pub returns-clause-text : goal.returns-clause-text
returns-clause-text c =
    let n = c.args.group in
    let before = take c.args.at c.args.room.now in
    let one = hex_digit (n / 0x1000) (omega (arith, c.ranges.group.fits)) in
    let first = take_more_set c.args.room.now c.args.at c.digit.result (omega (arith, c.told-room, c.requires)) in
    let sixteenth : n / 0x100 / 16 ≡ n / 0x1000 = omega arith in
    let second =
    c.next_digit-second.ensures.text before
    (rw (sixteenth, one) (first ∙ ap (λ digit. before ++ digit ∷ []) c.digit.ensures)) in
    let sixteenth : n / 0x10 / 16 ≡ n / 0x100 = omega arith in
    let third = c.next_digit-third.ensures.text before (rw sixteenth second) in
    let last = c.next_digit-last.ensures.text before third in
    take-set_at c.next_digit-last.new.room (c.next_digit-last.result + 1) (c.next_digit-last.result + 2) 58
    (omega arith) (omega (arith, c.next_digit-last.array_long)) ∙ rw last (simp append_assoc)
