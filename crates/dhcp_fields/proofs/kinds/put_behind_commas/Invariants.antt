-- The numbers so far, each after a comma.
use Rattle.std.proofs.Common.{take}
use Rattle.std.specs.Prelude.{◌++◌, codes, decimal, flat_map}
use Rattle.packet_fields.specs.Output.{Gains}
use Rattle.dhcp_fields.proofs.kinds.put_behind_commas.Given as goal

abbrev pub invariant-loop-kind : goal.invariant-loop-kind
invariant-loop-kind g l =
    Gains (g.W.Write.contents l.initial.output) (g.W.Write.contents l.output)
    (flat_map (λ next. codes "," ++ decimal next) (take l.kind-index l.kinds))
