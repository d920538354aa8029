-- The packets of the reasons so far.
use Rattle.std.proofs.Common.{◌≡◌, take}
use Rattle.dump_captures.specs.Kinds.{reasons}
use Rattle.dump_captures.specs.Summary.{refused_for, sum_up}
use Rattle.dump_captures.specs.Tally.{tally_of}
use Rattle.dump_captures.proofs.summary.all_refused.Given as goal

abbrev pub invariant-loop-reason : goal.invariant-loop-reason
invariant-loop-reason l =
    l.count ≡ sum_up (refused_for (tally_of l.tally)) (take l.reason-index reasons)
