use Rattle.record_wire.proofs.Words.{WritesInCalls, take}
use Rattle.record_wire.specs.private.Lines.{numbers_text}
use Rattle.record_wire.proofs.line.put_numbers.Given as goal

abbrev pub invariant-loop-number : goal.invariant-loop-number
invariant-loop-number g l =
    WritesInCalls g.S.Sink.took l.fn.output (numbers_text (take l.number-index l.numbers)) l.output
