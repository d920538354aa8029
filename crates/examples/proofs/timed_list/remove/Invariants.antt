use Rattle.std.proofs.Common.{◌≡◌, ◌≤◌, ◌++◌, drop, length}
use Rattle.examples.specs.TimedList.{without}
use Rattle.examples.proofs.timed_list.remove.Given as goal

-- what is kept, and what the rest leaves, is what is left of all
abbrev pub invariant-loop-entry : goal.invariant-loop-entry
invariant-loop-entry g l = record {
  few : length l.kept.items ≤ l.entry-index;
  whole : l.kept.items ++ without (g.T.Entry.is_of l.key) (drop l.entry-index l.entry-items)
      ≡ without (g.T.Entry.is_of l.key) l.entry-items;
}
