-- Each turn reads a line and prints it.
use Rattle.dump_lines.proofs.Running.{so_far-init, run-more, run-known, run-printed}
use Rattle.dump_lines.proofs.lines.show_lines.Goals as goal

pub lines-init : goal.lines-init
lines-init g c = so_far-init _ _

pub lines-preserved : goal.lines-preserved
lines-preserved g c = run-more _ _ _ _ _ _ _ _ c.lines.invariant (rw c.in-Some.is at c.in_ok-known.ensures)

pub returns-in-None : goal.returns-in-None
returns-in-None g c =
    let next = rw c.in-None.is at c.in_ok-known.ensures in
    record {
      known = run-known _ _ _ _ _ _ c.lines.invariant next;
      prints = run-printed _ _ _ _ _ _ c.lines.invariant next;
    }
