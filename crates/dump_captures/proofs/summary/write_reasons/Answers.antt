-- Each turn prints one reason more, where packets were refused for it.
use Rattle.std.proofs.Common.{◌∙◌, sym, arith}
use Rattle.std.proofs.lemmas.List.{take_all}
use Rattle.std.specs.Prelude.{flat_map}
use Rattle.packet_fields.proofs.Printing.{gained_on_ok, gains_last}
use Rattle.dump_captures.specs.Kinds.{reasons}
use Rattle.dump_captures.specs.Summary.{reason_parts, reasons_text}
use Rattle.dump_captures.specs.Tally.{tally_of}
use Rattle.dump_captures.specs.declared.kind.Reason.TheVariants.{Cut}
use Rattle.dump_captures.proofs.Summaries.{opened-none, opened-some, parts-none, parts-some}
use Rattle.dump_captures.proofs.summary.write_reasons.Goals as goal

pub loop-reason-preserved-then-count-eq0 : goal.loop-reason-preserved-then-count-eq0
loop-reason-preserved-then-count-eq0 g c =
    rw (parts-none (tally_of c.args.tally.now) reasons c.loop-reason.reason-index c.refused-count.result Cut
    c.loop-reason-test.true c.refused-count.ensures c.if-count-eq0.true)
    c.loop-reason.invariant

pub loop-reason-preserved : goal.loop-reason-preserved
loop-reason-preserved g c =
    let (first, gains) = c.loop-reason.invariant in
    parts-some (tally_of c.args.tally.now) reasons c.loop-reason.reason-index c.refused-count.result Cut
    c.loop-reason.is_first _ _ _ c.loop-reason-test.true c.refused-count.ensures c.if-count-eq0.false first gains
    c.in_ok-write_reason.ensures

pub returns-then-is_first : goal.returns-then-is_first
unfolding reasons_text
returns-then-is_first g c =
    let all = take_all c.loop-reason.reason-index reasons (omega (arith, c.loop-reason-test.false)) in
    let (first, gains) = rw all at c.loop-reason.invariant in
    opened-none _ _ (flat_map (reason_parts (tally_of c.args.tally.now)) reasons)
    (sym first ∙ c.if-is_first.true) gains

pub returns : goal.returns
unfolding reasons_text
returns g c =
    let all = take_all c.loop-reason.reason-index reasons (omega (arith, c.loop-reason-test.false)) in
    let (first, gains) = rw all at c.loop-reason.invariant in
    rw (← opened-some (flat_map (reason_parts (tally_of c.args.tally.now)) reasons)
    (sym first ∙ c.if-is_first.false))
    (gains_last _ _ _ gains (gained_on_ok _ _ _ _ c.write_all.ensures.bytes))
