use Rattle.std.proofs.Common.{◌≡◌, ◌≤◌, ◌++◌, drop, length}
use Rattle.std.specs.Prelude.{map}
use Rattle.examples.specs.Reported.{answered}
use Rattle.examples.proofs.reporter.reported.answer.Given as goal

-- what is there, and what becomes of the rest, is what becomes of all
abbrev pub invariant-loop-entry : goal.invariant-loop-entry
invariant-loop-entry g l = record {
  few : length l.later.items ≤ l.entry-index;
  whole : l.later.items ++ map (answered g.A.PartialEq.eq l.meant l.delay) (drop l.entry-index l.entry-items)
      ≡ map (answered g.A.PartialEq.eq l.meant l.delay) l.entry-items;
}
