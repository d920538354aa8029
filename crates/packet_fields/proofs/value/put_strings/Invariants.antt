-- The texts after the first so far, with a comma before each.
use Rattle.std.proofs.Common.{take}
use Rattle.std.specs.Prelude.{◌++◌, codes, flat_map}
use Rattle.json.specs.Print.{quoted}
use Rattle.packet_fields.specs.Output.{Gains}
use Rattle.packet_fields.proofs.value.put_strings.Given as goal

abbrev pub invariant-loop-next : goal.invariant-loop-next
invariant-loop-next g l =
    Gains (g.W.Write.contents l.initial.output) (g.W.Write.contents l.output)
    (flat_map (λ next. codes "," ++ quoted (g.T.Text.text_of next)) (take l.next-index l.rest))
