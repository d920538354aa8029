-- The rows so far, and whether there are none.
use Rattle.std.proofs.Common.{◌≡◌, take}
use Rattle.packet_fields.specs.Output.{Gains}
use Rattle.dump_captures.specs.private.Brackets.{is_none, opened, row_parts}
use Rattle.dump_captures.proofs.summary.write_rows.Given as goal

abbrev pub invariant-loop-row : goal.invariant-loop-row
invariant-loop-row g l =
    (l.is_first ≡ is_none (row_parts (take l.row-index l.rows)))
    × Gains (g.W.Write.contents l.initial.output) (g.W.Write.contents l.output)
    (opened (row_parts (take l.row-index l.rows)))
