-- The parts are taken in turn.
use Rattle.dump_lines.proofs.Taking.{reads_nothing, reads_more, line_read}
use Rattle.dump_lines.proofs.partial_line.read_line.Goals as goal

pub parts-init : goal.parts-init
parts-init g c = record { kept = c.clear.ensures.kept; reads = reads_nothing _ _ }

pub parts-preserved : goal.parts-preserved
parts-preserved g c = record {
  kept = c.in_ok-count.ensures.kept;
  reads = reads_more _ _ _ _ _ _ _ _ c.parts.invariant.reads (rw c.if-ended.false at c.in_ok-count.ensures.takes);
}

pub returns-then-ended : goal.returns-then-ended
returns-then-ended g c = record {
  next = line_read _ _ _ _ _ _ _ _ c.clear.ensures.fresh c.parts.invariant.reads
      (rw c.if-ended.true at c.in_ok-count.ensures.takes);
  kept = c.in_ok-count.ensures.kept;
  fault = tt;
}
