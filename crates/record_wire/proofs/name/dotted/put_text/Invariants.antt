use Rattle.record_wire.proofs.Words.{◌+◌, length}
use Rattle.record_wire.proofs.NameDottedTurns.{IsPutTo}
use Rattle.record_wire.proofs.name.dotted.put_text.Given as goal

abbrev pub invariant-loop-label : goal.invariant-loop-label
invariant-loop-label l = IsPutTo l.bytes l.message l.left l.reach l.room l.at l.dots l.pointers

abbrev pub decreases-loop-label : goal.decreases-loop-label
decreases-loop-label l = length l.left + length l.reach
