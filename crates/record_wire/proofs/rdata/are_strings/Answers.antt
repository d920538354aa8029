use Rattle.record_wire.proofs.Words.{◌≤◌, ◌∙◌, arith, eqb-false, length, sym}
use Rattle.record_wire.proofs.RDataParts.{strings_behind, no_string_first}
use Rattle.record_wire.proofs.rdata.are_strings.Goals as goal

pub loop-left-preserved : goal.loop-left-preserved
loop-left-preserved c =
    let step = strings_behind c.loop-left.left.now c.in-Some.rest.now (sym c.in-Some.ensures) in
    record {
      back = λ are. c.loop-left.invariant.back (step.0 are);
      forth = λ are. step.1 (c.loop-left.invariant.forth are);
    }

pub returns-in-None : goal.returns-in-None
returns-in-None c =
    let some : 1 ≤ length c.loop-left.left.now =
    omega (arith, eqb-false (length c.loop-left.left.now) 0 (sym c.is_empty.ensures ∙ c.loop-left-test.true)) in (
      λ t. absurd (cc t),
      λ are. absurd (no_string_first c.loop-left.left.now (sym c.in-None.ensures) some
          (c.loop-left.invariant.forth are)),
    )
