-- What is printed so far, and what the entries still to come print.
use Rattle.std.proofs.Common.{◌≡◌, ◌++◌, List, ℕ, length}
use Rattle.packet_fields.specs.Output.{Gains}
use Rattle.dns_fields.specs.Node.{part_texts}
use Rattle.dns_fields.specs.private.Parts.{behind_commas}
use Rattle.dns_fields.proofs.node.put_others.Given as goal

abbrev pub invariant-loop-left : goal.invariant-loop-left
invariant-loop-left g l =
    (done : List ℕ)
    × (done ++ behind_commas l.form (part_texts l.part l.left) ≡ behind_commas l.form (part_texts l.part l.octets))
    × Gains (g.W.Write.contents l.initial.output) (g.W.Write.contents l.output) done

abbrev pub decreases-loop-left : goal.decreases-loop-left
decreases-loop-left g l = length l.left
