use Rattle.std.proofs.Common.{Bool, ap, arith}
use Rattle.std.specs.Prelude.{not}
use Rattle.examples.specs.Membership.{has}
use Rattle.examples.proofs.Memberships.{one_taken, one_left}
use Rattle.examples.proofs.membership.gather_without.Goals as goal
use Rattle.examples.proofs.membership.gather_without.Goals.{then-not-contains, else-not-contains}

pub loop-source-preserved : goal.loop-source-preserved
loop-source-preserved g c =
    let test = λ (x : g.row.A.Denot). not (has g.A.PartialEq.eq c.args.second.now x) in
    let at = c.loop-source in
    elim c.if-not-contains.branch [
      | then-not-contains w ↦ record {
        fits = omega (arith, w.count-is, at.invariant.fits);
        gathered = one_taken test c.args.first.now at.room c.if-not-contains.room at.source-index at.count
            c.if-not-contains.count c.source-item.result (not c.contains.result) c.loop-source-test.true
            (omega (arith, at.invariant.fits, at.auto.room, c.loop-source-test.true, c.requires)) c.source-item.is
            (ap (λ (b : Bool). not b) c.contains.ensures.value) (ap (λ (b : Bool). not b) w.if-not-contains.true)
            w.room-is w.count-is at.invariant.gathered;
      }
      | else-not-contains w ↦ record {
        fits = omega (arith, w.count-is, at.invariant.fits);
        gathered = one_left test c.args.first.now at.room c.if-not-contains.room at.source-index at.count
            c.if-not-contains.count c.source-item.result (not c.contains.result) c.loop-source-test.true
            c.source-item.is (ap (λ (b : Bool). not b) c.contains.ensures.value)
            (ap (λ (b : Bool). not b) w.if-not-contains.false) w.room-is w.count-is at.invariant.gathered;
      }
    ]
