use Rattle.record_wire.proofs.Words.{◌≤◌, Spells, length}
use Rattle.record_wire.proofs.name.text.read_label.Given as goal

abbrev pub invariant-loop-byte : goal.invariant-loop-byte
invariant-loop-byte l = record {
  spells : Spells l.text l.label.items l.left;
  few : length l.label.items ≤ 63;
}

abbrev pub decreases-loop-byte : goal.decreases-loop-byte
decreases-loop-byte l = length l.left
