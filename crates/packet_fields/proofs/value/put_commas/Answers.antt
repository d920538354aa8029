-- The first text, and each turn a comma and one text more.
use Rattle.std.proofs.Common.{◌-◌, ◌++◌, arith, codes, drop, length, take}
use Rattle.std.proofs.lemmas.List.{take_all}
use Rattle.packet_fields.proofs.Lists.{commas-some}
use Rattle.packet_fields.proofs.Printing.{◌then◌, gained, gains_both, one_more, put}
use Rattle.packet_fields.proofs.value.put_commas.Goals as goal

pub loop-next-preserved : goal.loop-next-preserved
loop-next-preserved g c =
    let rest = take (length c.args.list.now - 1) (drop 1 c.args.list.now) in
    rw (
      one_more (λ next. codes "," ++ g.T.Text.text_of next) rest c.loop-next.next-index c.next-item.result
          c.loop-next-test.true,
      ← c.next-item.is,
    )
    (gains_both _ _ _ _ _ c.loop-next.invariant
    (gained _ _ _ c.in_ok-write_all.ensures.bytes then put g.W.Write.contents _ _ _ c.in_ok-put_into-2.ensures))

pub returns : goal.returns
returns g c =
    let rest = take (length c.args.list.now - 1) (drop 1 c.args.list.now) in
    let all = take_all c.loop-next.next-index rest (omega (arith, c.loop-next-test.false)) in
    rw (commas-some g.T.Text.text_of c.args.list.now c.first-item.result c.in-len1-up.len_at_least, ← c.first-item.is)
    (gains_both _ _ _ _ _ (put g.W.Write.contents _ _ _ c.in_ok-put_into.ensures) (rw all at c.loop-next.invariant))
