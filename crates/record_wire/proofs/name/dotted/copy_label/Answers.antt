-- Sixteen bytes are copied, of which those of the label count.
use Rattle.record_wire.proofs.Words.{◌≡◌, ◌+◌, ◌-◌, arith}
use Rattle.record_wire.proofs.NameDottedTurns.{piece_copied}
use Rattle.record_wire.proofs.name.dotted.copy_label.Goals as goal

pub returns-then-at : goal.returns-then-at
returns-then-at c =
    let there : c.args.at + 16 - c.args.at ≡ 16 = omega arith in
    rw there
    (piece_copied c.args.room.now c.args.label.now c.args.ahead.now c.copy_from_slice.new.self c.args.at 16
    (omega arith) (omega arith) (omega arith) c.requires.ahead c.copy_from_slice.ensures.after)
