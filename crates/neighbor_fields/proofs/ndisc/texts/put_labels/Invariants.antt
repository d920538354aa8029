-- The text so far, and that of the octets that are left.
use Rattle.std.proofs.Common.{◌≡◌, ◌++◌, List, drop, ℕ}
use Rattle.std.specs.Fmt.{WritesInCalls}
use Rattle.neighbor_fields.specs.NdiscTexts.{text_within}
use Rattle.neighbor_fields.proofs.ndisc.texts.put_labels.Given as goal

abbrev pub invariant-loop-octet : goal.invariant-loop-octet
invariant-loop-octet g l =
    (done : List ℕ)
    × (done ++ text_within l.left (drop l.octet-index l.octets) ≡ text_within l.first_len l.octets)
    × WritesInCalls g.S.Sink.took l.initial.output done l.output
