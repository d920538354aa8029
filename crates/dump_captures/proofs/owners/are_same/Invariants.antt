-- The labels so far are the same.
use Rattle.std.proofs.Common.{◌≡◌}
use Rattle.dump_captures.specs.Owners.{are_same}
use Rattle.dump_captures.proofs.owners.are_same.Given as goal

abbrev pub invariant-loop-label : goal.invariant-loop-label
invariant-loop-label l =
    (goal.iterator-loop-label).can_next l.name × (goal.iterator-loop-label).is_finite l.name
    × (are_same l.initial.name l.initial.other ≡ are_same l.name l.other)
