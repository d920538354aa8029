-- What is put so far, and the bytes that are left.
use Rattle.record_wire.proofs.Words.{◌≡◌, ◌++◌, List, WritesInCalls, ℕ, base64, length}
use Rattle.record_wire.proofs.text.words.put_base64.Given as goal

abbrev pub invariant-loop-a : goal.invariant-loop-a
invariant-loop-a g l =
    (done : List ℕ) × (done ++ base64 l.left ≡ base64 l.bytes) × WritesInCalls g.S.Sink.took l.fn.output done l.output

abbrev pub decreases-loop-a : goal.decreases-loop-a
decreases-loop-a g l = length l.left
