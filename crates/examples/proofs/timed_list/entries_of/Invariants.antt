use Rattle.std.proofs.Common.{◌≡◌, ◌≤◌, ◌++◌, drop, length}
use Rattle.std.specs.List.{filter}
use Rattle.examples.proofs.timed_list.entries_of.Given as goal

-- what is found, and what is of the key in the rest, is what is of the key in all
abbrev pub invariant-loop-entry : goal.invariant-loop-entry
invariant-loop-entry g l = record {
  few : length l.found.items ≤ l.entry-index;
  whole : l.found.items ++ filter (g.T.Entry.is_of l.key) (drop l.entry-index l.entry-items)
      ≡ filter (g.T.Entry.is_of l.key) l.entry-items;
}
