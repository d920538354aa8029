-- The part ends with what is buffered.
use Rattle.dump_lines.proofs.Taking.{part_front}
use Rattle.dump_lines.proofs.partial_line.take_line.Goals as goal

pub returns-clause-takes : goal.returns-clause-takes
returns-clause-takes c old new consumed at_end =
    part_front _ _ _ _ c.in_ok-end.ensures.bound c.in_ok-end.ensures.takes c.in_ok-end.ensures.no_end old new
    _ c.is_empty.ensures consumed at_end
