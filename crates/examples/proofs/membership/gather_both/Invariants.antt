use Rattle.std.proofs.Common.{◌≡◌, ◌≤◌, take}
use Rattle.examples.specs.Membership.{both}
use Rattle.examples.proofs.membership.gather_both.Given as goal

-- what is gathered is what is wanted of the sources so far
abbrev pub invariant-loop-source : goal.invariant-loop-source
invariant-loop-source g l = record {
  fits : l.count ≤ l.source-index;
  gathered : take l.count l.room ≡ both g.A.PartialEq.eq (take l.source-index l.first) l.second;
}
