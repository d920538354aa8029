use Rattle.std.proofs.Common.{◌≡◌, ◌≤◌, ◌++◌, drop, length}
use Rattle.std.specs.List.{filter_map}
use Rattle.examples.proofs.timed_list.pass.Given as goal

-- what is kept, and what the rest leaves, is what is left of all
abbrev pub invariant-loop-entry : goal.invariant-loop-entry
invariant-loop-entry g l = record {
  few : length l.kept.items ≤ l.entry-index;
  whole : l.kept.items ++ filter_map (g.T.Entry.after l.passed) (drop l.entry-index l.entry-items)
      ≡ filter_map (g.T.Entry.after l.passed) l.entry-items;
}
