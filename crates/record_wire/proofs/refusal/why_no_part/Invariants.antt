use Rattle.record_wire.proofs.Words.{Behind, length}
use Rattle.record_wire.proofs.refusal.why_no_part.Given as goal

abbrev pub invariant-loop-rest : goal.invariant-loop-rest
invariant-loop-rest l = Behind l.text l.left

abbrev pub decreases-loop-rest : goal.decreases-loop-rest
decreases-loop-rest l = length l.left
