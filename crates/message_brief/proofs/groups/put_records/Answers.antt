-- Each turn puts a record.
use Rattle.std.proofs.Common.{◌++◌, [], ap, arith, refl}
use Rattle.std.specs.Prelude.{flat_map}
use Rattle.wirebase.proofs.Sinks.{put_both, put_none}
use Rattle.message_brief.specs.Groups.{record_text}
use Rattle.message_brief.proofs.PartsInTurn.{next_record, one_more}
use Rattle.message_brief.proofs.groups.put_records.Goals as goal

pub loop-more-init : goal.loop-more-init
loop-more-init g c = ([], refl, put_none _ _)

pub loop-more-preserved : goal.loop-more-preserved
loop-more-preserved g c =
    let (done, is, put) = c.loop-more.invariant in
    let text = record_text c.args.width in
    let one = text c.split_at.result.0.now in
    let first = rw c.record_len.ensures.value at c.split_at.ensures.front in
    let others = rw c.record_len.ensures.value at c.split_at.ensures.back in
    let next = next_record c.args.width c.loop-more.more c.loop-more.left.now c.split_at.result.0.now
    c.split_at.result.1.now c.loop-more-test.true (omega arith) first others in (
      done ++ one,
      one_more done one _ _ _ is (ap (flat_map text) next),
      put_both _ _ _ _ _ _ put c.in_ok-put_record.ensures.calls,
    )
