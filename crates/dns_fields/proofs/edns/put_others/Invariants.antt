-- What is printed so far, and what the options still to come print.
use Rattle.std.proofs.Common.{◌≡◌, ◌++◌, List, ℕ, length}
use Rattle.packet_fields.specs.Output.{Gains}
use Rattle.dns_fields.specs.Edns.{option_texts}
use Rattle.dns_fields.specs.private.Parts.{behind_commas}
use Rattle.dns_fields.proofs.edns.put_others.Given as goal

abbrev pub invariant-loop-option : goal.invariant-loop-option
invariant-loop-option g l =
    (done : List ℕ)
    × (done ++ behind_commas l.form (option_texts l.options) ≡ behind_commas l.form (option_texts l.initial.options))
    × Gains (g.W.Write.contents l.initial.output) (g.W.Write.contents l.output) done

abbrev pub decreases-loop-option : goal.decreases-loop-option
decreases-loop-option g l = length l.options
