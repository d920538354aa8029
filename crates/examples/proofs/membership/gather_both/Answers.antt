use Rattle.std.proofs.Common.{arith}
use Rattle.examples.specs.Membership.{has}
use Rattle.examples.proofs.Memberships.{one_taken, one_left}
use Rattle.examples.proofs.membership.gather_both.Goals as goal
use Rattle.examples.proofs.membership.gather_both.Goals.{then-contains, else-contains}

pub loop-source-preserved : goal.loop-source-preserved
loop-source-preserved g c =
    let test = λ (x : g.row.A.Denot). has g.A.PartialEq.eq c.args.second.now x in
    let at = c.loop-source in
    elim c.if-contains.branch [
      | then-contains w ↦ record {
        fits = omega (arith, w.count-is, at.invariant.fits);
        gathered = one_taken test c.args.first.now at.room c.if-contains.room at.source-index at.count
            c.if-contains.count c.source-item.result c.contains.result c.loop-source-test.true
            (omega (arith, at.invariant.fits, at.auto.room, c.loop-source-test.true, c.requires)) c.source-item.is
            c.contains.ensures.value w.if-contains.true w.room-is w.count-is at.invariant.gathered;
      }
      | else-contains w ↦ record {
        fits = omega (arith, w.count-is, at.invariant.fits);
        gathered = one_left test c.args.first.now at.room c.if-contains.room at.source-index at.count
            c.if-contains.count c.source-item.result c.contains.result c.loop-source-test.true c.source-item.is
            c.contains.ensures.value w.if-contains.false w.room-is w.count-is at.invariant.gathered;
      }
    ]
