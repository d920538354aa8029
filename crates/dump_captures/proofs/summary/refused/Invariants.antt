-- The packets of the rows so far.
use Rattle.std.proofs.Common.{◌≡◌, take, get_or}
use Rattle.dump_captures.specs.Kinds.{reason_place}
use Rattle.dump_captures.specs.Summary.{sum_up}
use Rattle.dump_captures.proofs.summary.refused.Given as goal

abbrev pub invariant-loop-row : goal.invariant-loop-row
invariant-loop-row l =
    l.count ≡ sum_up (λ r. get_or r.refused (reason_place l.fn.reason) 0) (take l.row-index l.row-items)
