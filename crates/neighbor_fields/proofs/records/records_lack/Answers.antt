-- Each turn leaves out the first of the records that are left.
use Rattle.std.proofs.Common.{◌∙◌, sym}
use Rattle.neighbor_fields.proofs.RecordsInTurn.{lack_later}
use Rattle.neighbor_fields.proofs.records.records_lack.Goals as goal

pub loop-left-preserved : goal.loop-left-preserved
loop-left-preserved c =
    let whole = sym c.is_cut.ensures ∙ c.if-is_cut.false in
    let others = rw c.counted_len.ensures.value at c.split_at.ensures.back in
    let behind = c.split_at.result.1.now in
    sym (lack_later c.args.width c.loop-left.left c.loop-left.rest.now behind c.loop-left-test.true whole others)
    ∙ c.loop-left.invariant
