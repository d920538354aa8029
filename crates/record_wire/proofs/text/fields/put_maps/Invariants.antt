-- What is put so far, and the types that are left.
use Rattle.record_wire.proofs.Words.{◌≡◌, ◌++◌, List, WritesInCalls, ℕ, length, maps_text}
use Rattle.record_wire.proofs.text.fields.put_maps.Given as goal

abbrev pub invariant-loop-upper : goal.invariant-loop-upper
invariant-loop-upper g l =
    (done : List ℕ) × (done ++ maps_text l.left ≡ maps_text l.octets)
    × WritesInCalls g.S.Sink.took l.fn.output done l.output

abbrev pub decreases-loop-upper : goal.decreases-loop-upper
decreases-loop-upper g l = length l.left
