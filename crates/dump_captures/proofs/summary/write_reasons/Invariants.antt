-- The reasons so far, and whether none was printed.
use Rattle.std.proofs.Common.{◌≡◌}
use Rattle.packet_fields.specs.Output.{Gains}
use Rattle.dump_captures.specs.Kinds.{reasons}
use Rattle.dump_captures.specs.Tally.{tally_of}
use Rattle.dump_captures.specs.private.Brackets.{is_none, opened}
use Rattle.dump_captures.proofs.Summaries.{parts_so_far}
use Rattle.dump_captures.proofs.summary.write_reasons.Given as goal

abbrev pub invariant-loop-reason : goal.invariant-loop-reason
invariant-loop-reason g l =
    (l.is_first ≡ is_none (parts_so_far (tally_of l.tally) reasons l.reason-index))
    × Gains (g.W.Write.contents l.initial.output) (g.W.Write.contents l.output)
    (opened (parts_so_far (tally_of l.tally) reasons l.reason-index))
