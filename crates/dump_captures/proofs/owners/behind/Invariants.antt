-- As many labels are passed in both.
use Rattle.std.proofs.Common.{◌≡◌, drop, length}
use Rattle.dump_captures.proofs.owners.behind.Given as goal

abbrev pub invariant-loop-front : goal.invariant-loop-front
invariant-loop-front l = drop (length l.initial.front) l.initial.left ≡ drop (length l.front) l.left

abbrev pub decreases-loop-front : goal.decreases-loop-front
decreases-loop-front l = length l.front
