use Rattle.std.proofs.Common.{◌≡◌, drop}
use Rattle.std.specs.List.{find}
use Rattle.examples.specs.Reception.{is_due}
use Rattle.examples.proofs.querier.reception.next_due.Given as goal

-- what is found in the rest is what is found
abbrev pub invariant-loop-reception : goal.invariant-loop-reception
invariant-loop-reception g l =
    find is_due (drop l.reception-index l.receptions) ≡ find is_due l.receptions
