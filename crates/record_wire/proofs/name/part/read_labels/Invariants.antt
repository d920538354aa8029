use Rattle.record_wire.proofs.Words.{◌≡◌, ◌-◌, ◌≤◌, LabelsAtFront, drop, length}
use Rattle.record_wire.proofs.name.part.read_labels.Given as goal

abbrev pub invariant-loop-rest : goal.invariant-loop-rest
invariant-loop-rest l = record {
  labels : LabelsAtFront l.text (length l.text - length l.left);
  fits : length l.left ≤ length l.text;
  at : l.left ≡ drop (length l.text - length l.left) l.text;
}

abbrev pub decreases-loop-rest : goal.decreases-loop-rest
decreases-loop-rest l = length l.left
