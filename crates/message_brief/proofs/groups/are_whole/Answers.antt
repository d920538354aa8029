-- Each turn passes over a record.
use Rattle.std.proofs.Common.{◌∙◌, arith, sym}
use Rattle.message_brief.proofs.PartsInTurn.{whole-behind, whole-here}
use Rattle.message_brief.proofs.groups.are_whole.Goals as goal

pub returns-then-not-is_whole_record : goal.returns-then-not-is_whole_record
returns-then-not-is_whole_record c =
    let first = rw c.record_len.ensures.value at c.split_at.ensures.front in
    let others = rw c.record_len.ensures.value at c.split_at.ensures.back in
    sym (whole-here c.args.width c.loop-more.more c.loop-more.left.now c.split_at.result.0.now c.split_at.result.1.now
    c.loop-more-test.true (omega arith) first others (sym c.is_whole_record.ensures ∙ c.if-not-is_whole_record.true))
    ∙ c.loop-more.invariant

pub loop-more-preserved : goal.loop-more-preserved
loop-more-preserved c =
    let first = rw c.record_len.ensures.value at c.split_at.ensures.front in
    let others = rw c.record_len.ensures.value at c.split_at.ensures.back in
    sym (whole-behind c.args.width c.loop-more.more c.loop-more.left.now c.split_at.result.0.now c.split_at.result.1.now
    c.loop-more-test.true (omega arith) first others (sym c.is_whole_record.ensures ∙ c.if-not-is_whole_record.false))
    ∙ c.loop-more.invariant
