-- The names so far.
use Rattle.std.proofs.Common.{◌++◌, codes, take}
use Rattle.std.specs.Prelude.{flat_map}
use Rattle.packet_fields.specs.Output.{Gains}
use Rattle.dump_captures.specs.Kinds.{reasons, reason_text}
use Rattle.dump_captures.proofs.table.show_reasons.Given as goal

abbrev pub invariant-loop-reason : goal.invariant-loop-reason
invariant-loop-reason g l =
    Gains (g.W.Write.contents l.initial.output) (g.W.Write.contents l.output)
    (flat_map (λ reason. codes "\t" ++ reason_text reason) (take l.reason-index reasons))
