-- The numbers after the first so far, with a comma before each.
use Rattle.std.proofs.Common.{take}
use Rattle.std.specs.Prelude.{◌++◌, codes, decimal, flat_map}
use Rattle.packet_fields.specs.Output.{Gains}
use Rattle.dump_captures.proofs.numbers.put_array.Given as goal

abbrev pub invariant-loop-next : goal.invariant-loop-next
invariant-loop-next g l =
    Gains (g.W.Write.contents l.initial.output) (g.W.Write.contents l.output)
    (flat_map (λ next. codes "," ++ decimal next) (take l.next-index l.rest))
