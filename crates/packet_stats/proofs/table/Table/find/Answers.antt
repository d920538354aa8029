-- Only subjects with the same sum are compared.
use Rattle.std.proofs.Common.{◌≡◌, ◌≢◌, ◌∙◌, rules, sym}
use Rattle.packet_stats.specs.Subject.{subject_of}
use Rattle.packet_stats.proofs.Places.{found_at, unknown_more}
use Rattle.packet_stats.proofs.Sums.{none_with, unknown_with, within_rows}
use Rattle.packet_stats.proofs.table.Table.find.Goals as goal
use Rattle.packet_stats.proofs.table.Table.find.Goals.{else-other-sum-via-else-other-sum}
use Rattle.packet_stats.proofs.table.Table.find.Goals.{else-other-sum-via-then-other-sum+else-is}

pub returns-then-not-contains-clause-none : goal.returns-then-not-contains-clause-none
returns-then-not-contains-clause-none c _ =
    let all = c.args.self.now in
    none_with (subject_of c.args.subject.now) all.rows.items c.deref.result.now c.sum-sum.result
    (c.deref.ensures.value ∙ all.summed) c.sum-sum.ensures (sym c.contains.ensures.value ∙ c.if-not-contains.true)

pub returns-then-is-clause-some : goal.returns-then-is-clause-some
returns-then-is-clause-some c =
    let all = c.args.self.now in
    let within = within_rows all.rows.items c.deref-other-items.result.now c.loop-place.place
    (c.deref-other-items.ensures.value ∙ all.summed) c.loop-place-test.true in
    let same : subject_of c.index.result.now.subject ≡ subject_of c.args.subject.now = search rules in
    found_at (subject_of c.args.subject.now) all.rows.items c.loop-place.place c.index.result.now within
    c.index.ensures same c.loop-place.invariant

pub loop-place-preserved : goal.loop-place-preserved
loop-place-preserved c =
    let rows = c.args.self.now.rows.items in
    let subject = subject_of c.args.subject.now in
    let sums = c.deref-other-items.result.now in
    let summed = c.deref-other-items.ensures.value ∙ c.args.self.now.summed in
    let place = c.loop-place.place in
    elim c.else-other-sum.branch [
      | else-other-sum-via-then-other-sum+else-is w ↦
          let other : subject_of w.index.result.now.subject ≢ subject = search rules in
          unknown_more subject rows place w.index.result.now (within_rows rows sums place summed c.loop-place-test.true)
          w.index.ensures other c.loop-place.invariant
      | else-other-sum-via-else-other-sum w ↦
          unknown_with subject rows sums c.sum-sum.result place summed c.sum-sum.ensures w.if-other-sum.false
          c.loop-place.invariant
    ]
