use Rattle.record_wire.proofs.Words.{◌≤◌, ◌∙◌, MapValue, arith, eqb-false, length, sym}
use Rattle.record_wire.proofs.FieldParts.{maps_behind, no_map_first}
use Rattle.record_wire.proofs.rdata.fields.are_maps.Goals as goal

pub loop-left-preserved : goal.loop-left-preserved
loop-left-preserved c =
    let first : MapValue = record { upper = c.in-Some.field-0-0; map = c.in-Some.field-0-1.now } in
    let step = maps_behind c.loop-left.left.now first c.in-Some.rest.now (sym c.in-Some.ensures) in
    record {
      back = λ are. c.loop-left.invariant.back (step.0 are);
      forth = λ are. step.1 (c.loop-left.invariant.forth are);
    }

pub returns-in-None : goal.returns-in-None
returns-in-None c =
    let some : 1 ≤ length c.loop-left.left.now =
    omega (arith, eqb-false (length c.loop-left.left.now) 0 (sym c.is_empty.ensures ∙ c.loop-left-test.true)) in (
      λ t. absurd (cc t),
      λ are. absurd (no_map_first c.loop-left.left.now (sym c.in-None.ensures) some
          (c.loop-left.invariant.forth are)),
    )
