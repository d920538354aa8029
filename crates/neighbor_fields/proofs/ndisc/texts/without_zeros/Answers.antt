use Rattle.std.proofs.Common.{◌≡◌, ◌<◌, ℕ, List, take, sym, ap, ◌∙◌, arith}
use Rattle.neighbor_fields.specs.NdiscTexts.{without_zeros}
use Rattle.neighbor_fields.proofs.Zeros.{none_left, none_off, zero_off}
use Rattle.neighbor_fields.proofs.ndisc.texts.without_zeros.Goals as goal
use Rattle.neighbor_fields.proofs.ndisc.texts.without_zeros.Goals.{then-loop-end-test+else-octets-end-eq0}
use Rattle.neighbor_fields.proofs.ndisc.texts.without_zeros.Goals.{else-loop-end-test}

pub loop-end-preserved : goal.loop-end-preserved
loop-end-preserved c =
    let some : 0 < c.loop-end.end = omega (arith, c.loop-end-test.true) in (
      omega (arith, c.loop-end.invariant.0),
      zero_off c.args.octets.now c.loop-end.end some c.loop-end.invariant.0 c.if-octets-end-eq0.true
          ∙ c.loop-end.invariant.1,
    )

pub returns : goal.returns
returns c =
    elim c.loop-end-test.branch [
      | then-loop-end-test+else-octets-end-eq0 w ↦
          sym (none_off c.args.octets.now c.loop-end.end (omega (arith, w.loop-end-test.true)) c.loop-end.invariant.0
          w.if-octets-end-eq0.false) ∙ c.loop-end.invariant.1
      | else-loop-end-test w ↦
          let none : c.loop-end.end ≡ 0 = omega (arith, w.loop-end-test.false) in
          let empty = ap (λ (n : ℕ). take n c.args.octets.now) none in
          empty ∙ sym none_left ∙ ap (λ (l : List ℕ). without_zeros l) (sym empty) ∙ c.loop-end.invariant.1
    ]
