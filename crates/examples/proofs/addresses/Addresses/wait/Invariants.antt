use Rattle.std.proofs.Common.{◌≡◌, ◌≤◌, ◌++◌, drop, length, map}
use Rattle.examples.specs.Addresses.{waited}
use Rattle.examples.proofs.addresses.Addresses.wait.Given as goal

-- what is there, and what becomes of the rest, is what becomes of all
abbrev pub invariant-loop-entry : goal.invariant-loop-entry
invariant-loop-entry l = record {
  few : length l.later.items ≤ l.entry-index;
  whole : l.later.items ++ map (waited l.milliseconds) (drop l.entry-index l.entry-items)
      ≡ map (waited l.milliseconds) l.entry-items;
}
