-- The labels before what is left were read.
use Rattle.record_wire.proofs.Words.{length}
use Rattle.record_wire.proofs.NameLabels.{SoFar}
use Rattle.record_wire.proofs.name.text_refusal.why_no_text.Given as goal

abbrev pub invariant-loop-label : goal.invariant-loop-label
invariant-loop-label l = SoFar l.text l.octets.items l.left

abbrev pub decreases-loop-label : goal.decreases-loop-label
decreases-loop-label l = length l.left
