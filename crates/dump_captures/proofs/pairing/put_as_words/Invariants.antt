-- The octets so far are printed.
use Rattle.std.proofs.Common.{◌≡◌, ◌++◌, List, drop, true, ℕ}
use Rattle.packet_fields.specs.Output.{Gains}
use Rattle.dump_captures.specs.Pairing.{as_words}
use Rattle.dump_captures.proofs.pairing.put_as_words.Given as goal

abbrev pub invariant-loop-octet : goal.invariant-loop-octet
invariant-loop-octet g l =
    (done : List ℕ) × (done ++ as_words l.begins (drop l.octet-index l.lines) ≡ as_words true l.lines)
    × Gains (g.W.Write.contents l.initial.output) (g.W.Write.contents l.output) done
