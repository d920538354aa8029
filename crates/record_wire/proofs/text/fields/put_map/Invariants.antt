-- What is put so far, and the types that are left.
use Rattle.record_wire.proofs.Words.{◌≡◌, ◌++◌, List, WritesInCalls, ℕ, length, map_text}
use Rattle.record_wire.proofs.text.fields.put_map.Given as goal

abbrev pub invariant-loop-byte : goal.invariant-loop-byte
invariant-loop-byte g l =
    (done : List ℕ) × (done ++ map_text l.number l.left ≡ map_text l.first l.map)
    × WritesInCalls g.S.Sink.took l.fn.output done l.output

abbrev pub decreases-loop-byte : goal.decreases-loop-byte
decreases-loop-byte g l = length l.left
