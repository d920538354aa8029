use Rattle.std.proofs.Common.{List, ℕ, subst}
use Rattle.examples.specs.QuerierReports.{HearsRecords, ends, more}
use Rattle.examples.proofs.querier.reports.hear_report.Goals as goal

pub loop-record-preserved : goal.loop-record-preserved
loop-record-preserved g c = λ new rest.
    let given = c.in-Some.ensures.steps in
    c.loop-record.invariant new
    (rw given.2 (more given.0 c.in-Some.«record» given.1 c.hear_record.ensures rest))

pub returns : goal.returns
returns g c =
    let done : HearsRecords g.A.PartialEq.eq g.A.Address.bytes g.A.Address.family g.row.N c.args.times.now c.args.asks
    c.loop-record.record-iterator c.loop-record.receptions.items c.loop-record.receptions.items =
    rw c.in-None.ensures.steps.0 ends in (
      c.iter-record-items.result,
      c.iter-record-items.ensures.records,
      subst (λ (records : List (List ℕ)). HearsRecords g.A.PartialEq.eq g.A.Address.bytes g.A.Address.family g.row.N
          c.args.times.now c.args.asks records c.args.receptions.now.items c.loop-record.receptions.items)
          c.into_iter-record-iterator.ensures.into_iter_gives
          (c.loop-record.invariant c.loop-record.receptions.items done),
    )
