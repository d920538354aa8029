-- The kinds that are left are those that were to come.
use Rattle.std.proofs.Common.{◌≡◌, ◌≤◌, length}
use Rattle.dhcp_fields.specs.Options.{kinds_in}
use Rattle.dhcp_fields.proofs.options.next_kind.Given as goal

abbrev pub invariant-loop-answer : goal.invariant-loop-answer
invariant-loop-answer l = record {
  kinds : kinds_in l.left ≡ kinds_in l.fn.left;
  fewer : length l.left ≤ length l.fn.left;
}

abbrev pub decreases-loop-answer : goal.decreases-loop-answer
decreases-loop-answer l = length l.left
