-- The first string, each turn a comma and one string more, and the brackets.
use Rattle.std.proofs.Common.{◌-◌, arith, drop, length, take}
use Rattle.std.proofs.lemmas.List.{take_all}
use Rattle.packet_fields.proofs.Lists.{strings-some}
use Rattle.packet_fields.proofs.Printing.{◌then◌, gained, gained_on_ok, gains_last}
use Rattle.packet_fields.proofs.value.put_strings.Goals as goal

pub returns : goal.returns
returns g c =
    let rest = take (length c.args.list.now - 1) (drop 1 c.args.list.now) in
    let all = take_all c.loop-next.next-index rest (omega (arith, c.loop-next-test.false)) in
    rw (strings-some g.T.Text.text_of c.args.list.now c.first-item.result c.in-len1-up.len_at_least, ← c.first-item.is)
    (gains_last _ _ c.write_all-3.result (gained _ _ _ c.in_ok-write_all.ensures.bytes then c.in_ok-put_string.ensures
    then (rw all at c.loop-next.invariant)) (gained_on_ok _ _ _ _ c.write_all-3.ensures.bytes))
