-- The names so far, and those that are left.
use Rattle.std.proofs.Common.{◌≡◌, ◌++◌, List, length, true, ℕ}
use Rattle.packet_fields.specs.Output.{Gains}
use Rattle.packet_fields.specs.private.TextRuns.{run_from, still_first}
use Rattle.neighbor_fields.specs.NdiscTexts.{names_in}
use Rattle.neighbor_fields.proofs.ndisc.names.put_names.Given as goal

abbrev pub invariant-loop-rest : goal.invariant-loop-rest
invariant-loop-rest g l =
    (done : List (List ℕ)) × (done ++ names_in l.rest ≡ names_in l.octets) × (l.is_first ≡ still_first true done)
    × Gains (g.W.Write.contents l.initial.output) (g.W.Write.contents l.output) (run_from l.form true done)

abbrev pub decreases-loop-rest : goal.decreases-loop-rest
decreases-loop-rest g l = length l.rest
