use Rattle.record_wire.proofs.Words.{◌++◌, List, WritesInCalls, ℕ, codes, decimal, subst}
use Rattle.record_wire.proofs.Puts.{◌then◌}
use Rattle.record_wire.proofs.RecordTexts.{one_more}
use Rattle.record_wire.proofs.line.put_numbers.Goals as goal

pub loop-number-preserved : goal.loop-number-preserved
loop-number-preserved g c =
    subst (λ (t : List ℕ). WritesInCalls g.S.Sink.took c.args.output.now t c.put_str.new.output)
    (one_more (λ number. decimal number ++ codes " ") c.args.numbers.now c.loop-number.number-index 0
    c.loop-number-test.true)
    (c.loop-number.invariant then ((rw c.from.ensures at c.in_ok-put_number.ensures.calls) then
    c.in_ok-put_str.ensures.calls))
