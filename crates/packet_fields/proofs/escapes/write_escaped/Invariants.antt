-- The octets so far are written.
use Rattle.std.proofs.Common.{◌≡◌, ◌++◌, List, ℕ, length}
use Rattle.json.specs.Print.{escape}
use Rattle.packet_fields.specs.Output.{Gains}
use Rattle.packet_fields.proofs.escapes.write_escaped.Given as goal

abbrev pub invariant-loop-rest : goal.invariant-loop-rest
invariant-loop-rest g l =
    (done : List ℕ) × (done ++ l.rest ≡ l.text)
    × Gains (g.W.Write.contents l.initial.output) (g.W.Write.contents l.output) (escape done)

abbrev pub decreases-loop-rest : goal.decreases-loop-rest
decreases-loop-rest g l = length l.rest
