-- The addresses so far, and those that are left.
use Rattle.std.proofs.Common.{◌≡◌, ◌++◌, List, ℕ, length, true}
use Rattle.packet_fields.specs.Output.{Gains}
use Rattle.packet_fields.specs.Texts.{addresses}
use Rattle.packet_fields.specs.private.TextRuns.{run_from, still_first}
use Rattle.packet_fields.proofs.texts.put_addresses.Given as goal

abbrev pub invariant-loop-rest : goal.invariant-loop-rest
invariant-loop-rest g l =
    (done : List (List ℕ))
    × (done ++ addresses l.list.width l.rest ≡ addresses l.list.width l.list.octets.now)
    × (l.is_first ≡ still_first true done)
    × Gains (g.W.Write.contents l.initial.output) (g.W.Write.contents l.output) (run_from l.form true done)

abbrev pub decreases-loop-rest : goal.decreases-loop-rest
decreases-loop-rest g l = length l.rest
