-- The rows, what is further, and the bracket.
use Rattle.packet_fields.proofs.Printing.{◌then◌, gains_last}
use Rattle.dump_captures.specs.Counts.{counts_text}
use Rattle.dump_captures.specs.private.Brackets.{row_parts}
use Rattle.dump_captures.proofs.Summaries.{brackets-whole}
use Rattle.dump_captures.proofs.summary.write_counts.Goals as goal

pub returns : goal.returns
unfolding counts_text
returns g c =
    let (first, rows) = rw c.as_slice.ensures.value at c.in_ok-is_first.ensures in
    rw (← brackets-whole (row_parts c.args.counts.now.rows.items) c.args.counts.now.further c.in_ok-is_first.is_first
    first)
    (gains_last _ _ _ (rows then c.in_ok-write_others.ensures) c.write_end.ensures)
