-- What is put so far, and the words that are left.
use Rattle.record_wire.proofs.Words.{◌≡◌, ◌++◌, List, WritesInCalls, ℕ, length, string_words}
use Rattle.record_wire.proofs.text.words.put_behind_spaces.Given as goal

abbrev pub invariant-loop-string : goal.invariant-loop-string
invariant-loop-string g l =
    (done : List ℕ) × (done ++ string_words l.strings ≡ string_words l.fn.strings)
    × WritesInCalls g.S.Sink.took l.fn.output done l.output

abbrev pub decreases-loop-string : goal.decreases-loop-string
decreases-loop-string g l = length l.strings
