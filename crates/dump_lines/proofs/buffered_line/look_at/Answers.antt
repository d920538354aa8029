-- A line up to its LF is seen.
use Rattle.std.proofs.Common.{arith}
use Rattle.dump_lines.proofs.Looking.{line_seen}
use Rattle.dump_lines.proofs.buffered_line.look_at.Goals as goal

pub returns-clause-sees : goal.returns-clause-sees
returns-clause-sees c old new consumed at_end =
    line_seen c.args.shown.now c.len_before-end.result _ (omega arith) (c.len_before-end.ensures.found (omega arith))
    c.len_before-end.ensures.free c.in_ok-shape.ensures.shape old new consumed
