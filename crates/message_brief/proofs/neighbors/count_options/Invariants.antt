-- How many there were so far, and how many are left.
use Rattle.std.proofs.Common.{◌≡◌, ◌+◌, ◌≤◌, length}
use Rattle.std.specs.Prelude.{count_by}
use Rattle.message_brief.specs.Neighbors.{is_of, options_in}
use Rattle.message_brief.proofs.neighbors.count_options.Given as goal

abbrev pub invariant-loop-left : goal.invariant-loop-left
invariant-loop-left l = record {
  counts : l.count + count_by (is_of l.type_) (options_in l.left) ≡ count_by (is_of l.type_) (options_in l.octets);
  few : l.count + length l.left ≤ length l.octets;
}

abbrev pub decreases-loop-left : goal.decreases-loop-left
decreases-loop-left l = length l.left
