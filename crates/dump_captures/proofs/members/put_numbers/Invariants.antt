-- The tags so far are printed.
use Rattle.std.proofs.Common.{◌≡◌, ◌++◌, List, length, true, ℕ}
use Rattle.packet_fields.specs.Output.{Gains}
use Rattle.dump_captures.specs.private.Vlans.{run_from}
use Rattle.dump_captures.proofs.members.put_numbers.Given as goal

abbrev pub invariant-loop-left : goal.invariant-loop-left
invariant-loop-left g l =
    (done : List ℕ) × (done ++ run_from l.is_first l.left ≡ run_from true l.tags)
    × Gains (g.W.Write.contents l.initial.output) (g.W.Write.contents l.output) done

abbrev pub decreases-loop-left : goal.decreases-loop-left
decreases-loop-left g l = length l.left
