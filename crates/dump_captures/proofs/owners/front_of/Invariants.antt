-- As many labels are passed in both.
use Rattle.std.proofs.Common.{◌≡◌, ◌+◌, length}
use Rattle.dump_captures.proofs.owners.front_of.Given as goal

abbrev pub invariant-loop-end : goal.invariant-loop-end
invariant-loop-end l =
    (goal.iterator-loop-end).can_next l.end × (goal.iterator-loop-end).is_finite l.end
    × (length l.front + length l.initial.end ≡ length l.initial.front + length l.end)
