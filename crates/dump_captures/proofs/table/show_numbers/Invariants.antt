-- The numbers so far.
use Rattle.std.proofs.Common.{take}
use Rattle.packet_fields.specs.Output.{Gains}
use Rattle.dump_captures.specs.Table.{with_tabs}
use Rattle.dump_captures.proofs.table.show_numbers.Given as goal

abbrev pub invariant-loop-number : goal.invariant-loop-number
invariant-loop-number g l =
    Gains (g.W.Write.contents l.initial.output) (g.W.Write.contents l.output)
    (with_tabs (take l.number-index l.numbers))
