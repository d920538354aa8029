-- Each turn prints a tab and one name more.
use Rattle.std.proofs.Common.{ℕ, List, ◌++◌, codes, arith}
use Rattle.std.proofs.lemmas.List.{take_all}
use Rattle.packet_fields.proofs.Printing.{◌then◌, gained, gains_both, one_more}
use Rattle.dump_captures.specs.Kinds.{reasons, reason_text}
use Rattle.dump_captures.specs.declared.kind.Reason.{Reason}
use Rattle.dump_captures.specs.declared.kind.Reason.TheVariants.{Cut}
use Rattle.dump_captures.proofs.table.show_reasons.Goals as goal

abbrev with_tab : Reason → List ℕ
with_tab reason = codes "\t" ++ reason_text reason

pub loop-reason-preserved : goal.loop-reason-preserved
loop-reason-preserved g c =
    let name = rw c.name.ensures at c.in_ok-put.ensures.text in
    rw (one_more with_tab reasons c.loop-reason.reason-index Cut c.loop-reason-test.true)
    (gains_both _ _ _ _ _ c.loop-reason.invariant (gained _ _ _ c.in_ok-write_all.ensures.bytes then name))

pub returns : goal.returns
returns g c =
    rw (take_all c.loop-reason.reason-index reasons (omega (arith, c.loop-reason-test.false)))
    at c.loop-reason.invariant
