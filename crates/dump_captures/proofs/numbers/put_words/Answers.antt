-- The first number, and those behind it.
use Rattle.std.proofs.Common.{arith}
use Rattle.std.proofs.lemmas.List.{take_all}
use Rattle.packet_fields.proofs.Printing.{gains_both}
use Rattle.dump_captures.proofs.NumberRuns.{others, words-some}
use Rattle.dump_captures.proofs.numbers.put_words.Goals as goal

pub returns : goal.returns
returns g c =
    let all = take_all c.loop-next.next-index (others c.args.list.now) (omega (arith, c.loop-next-test.false)) in
    rw (words-some c.args.list.now 0 c.in-len1-up.len_at_least)
    (gains_both _ _ _ _ _ c.in_ok-put.ensures.text (rw all at c.loop-next.invariant))
