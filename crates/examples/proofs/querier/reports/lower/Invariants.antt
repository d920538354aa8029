use Rattle.std.proofs.Common.{◌≡◌, ◌≤◌, ◌++◌, drop, length}
use Rattle.std.specs.Prelude.{map}
use Rattle.examples.specs.Reception.{lowered}
use Rattle.examples.proofs.querier.reports.lower.Given as goal

-- what is kept, and what the rest gives, is what all give
abbrev pub invariant-loop-reception : goal.invariant-loop-reception
invariant-loop-reception g l = record {
  few : length l.kept.items ≤ l.reception-index;
  whole : l.kept.items
      ++ map (lowered g.A.PartialEq.eq l.meant l.limit l.queries) (drop l.reception-index l.reception-items)
      ≡ map (lowered g.A.PartialEq.eq l.meant l.limit l.queries) l.reception-items;
}
