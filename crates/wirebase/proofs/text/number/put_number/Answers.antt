-- Decimal digits are ASCII.
use Rattle.wirebase.proofs.Words.{◌≡◌, ◌∙◌, ◌-◌, IsAscii, IsAscii-decimal, arith, drop, length-drop, subst, sym}
use Rattle.wirebase.proofs.Words.{take, take_all}
use Rattle.wirebase.proofs.text.number.put_number.Goals as goal

pub put-requires : goal.put-requires
put-requires g c =
    let start = c.put_digits-start.result in
    let room = c.put_digits-start.new.room in
    let all : take (20 - start) (drop start room) ≡ drop start room =
    take_all (20 - start) (drop start room) (omega (arith, length-drop start room, c.put_digits-start.array_long)) in
    subst IsAscii (sym (all ∙ c.put_digits-start.ensures.digits)) (IsAscii-decimal c.args.number c.ranges.number.fits)
