-- The entries of the first rows.
use Rattle.std.proofs.Common.{take}
use Rattle.packet_fields.specs.private.Entries.{PrintsEntries}
use Rattle.packet_stats.proofs.RowEntries.{entries_of}
use Rattle.packet_stats.proofs.show.show_rows.Given as goal

abbrev pub invariant-loop-place : goal.invariant-loop-place
invariant-loop-place g l =
    PrintsEntries l.form (g.W.Write.contents l.initial.output) (g.W.Write.contents l.output)
    (entries_of l.form (take l.place l.rows))
