-- The packets of the rows so far.
use Rattle.std.proofs.Common.{◌≡◌, take}
use Rattle.dump_captures.specs.Summary.{sum_up}
use Rattle.dump_captures.proofs.summary.listed.Given as goal

abbrev pub invariant-loop-row : goal.invariant-loop-row
invariant-loop-row l = l.count ≡ sum_up (λ r. r.listed) (take l.row-index l.row-items)
