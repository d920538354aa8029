-- The answers still to come tell what all tell.
use Rattle.std.proofs.Common.{◌≡◌, length}
use Rattle.dhcp_fields.specs.Refusal.{first_cut}
use Rattle.dhcp_fields.proofs.refusal.first_cut.Given as goal

abbrev pub invariant-loop-answer : goal.invariant-loop-answer
invariant-loop-answer l = first_cut l.left ≡ first_cut l.initial.left

abbrev pub decreases-loop-answer : goal.decreases-loop-answer
decreases-loop-answer l = length l.left
