-- The runs among the groups that follow.
use Rattle.wirebase.proofs.Words.{◌≡◌, ◌+◌, ◌≤◌, drop, longest_zero_run}
use Rattle.std.specs.Net.Text.{zero_run}
use Rattle.wirebase.proofs.text.groups.longest_run.Given as goal

abbrev pub invariant-loop-i : goal.invariant-loop-i
invariant-loop-i l = record {
  start : l.start ≡ l.i + (longest_zero_run (drop l.i l.groups)).0;
  len : l.len ≡ (longest_zero_run (drop l.i l.groups)).1;
  run : l.run ≡ zero_run (drop l.i l.groups);
  within : l.i ≤ 8;
  room : l.start + l.len ≤ 8;
  left : l.i + l.run ≤ 8;
}

abbrev pub decreases-loop-i : goal.decreases-loop-i
decreases-loop-i l = l.i
