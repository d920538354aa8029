-- The rows so far.
use Rattle.std.proofs.Common.{take}
use Rattle.std.specs.Prelude.{flat_map}
use Rattle.packet_fields.specs.Output.{Gains}
use Rattle.dump_captures.specs.Kinds.{kinds}
use Rattle.dump_captures.specs.Table.{chosen_text}
use Rattle.dump_captures.specs.Tally.{tally_of}
use Rattle.dump_captures.proofs.table.show_rows.Given as goal

abbrev pub invariant-loop-kind : goal.invariant-loop-kind
invariant-loop-kind g l =
    Gains (g.W.Write.contents l.initial.output) (g.W.Write.contents l.output)
    (flat_map (chosen_text l.only (tally_of l.tally).rows) (take l.kind-index kinds))
