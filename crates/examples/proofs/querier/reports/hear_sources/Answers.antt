use Rattle.std.proofs.Common.{List, ℕ, subst, sym}
use Rattle.examples.specs.QuerierReports.{HearsEach, next, none}
use Rattle.examples.specs.declared.querier.reception.Reception.{Reception}
use Rattle.examples.proofs.querier.reports.hear_sources.Goals as goal

pub loop-source-preserved : goal.loop-source-preserved
loop-source-preserved g c = λ new rest.
    let behind = subst (λ (rs : List (Reception g.row.A.Denot)). HearsEach g.A.PartialEq.eq g.A.Address.bytes g.row.N
    c.args.times.now c.args.change c.args.group c.next.new.self rs new) c.hear_source.ensures rest in
    c.loop-source.invariant new
    (subst (λ (sources : List (List ℕ)). HearsEach g.A.PartialEq.eq g.A.Address.bytes g.row.N c.args.times.now
    c.args.change c.args.group sources c.loop-source.receptions.items new)
    (sym c.in-Some.ensures.steps) (next c.in-Some.source behind))

pub returns : goal.returns
returns g c =
    let ends : HearsEach g.A.PartialEq.eq g.A.Address.bytes g.row.N c.args.times.now c.args.change c.args.group
    c.loop-source.source-iterator c.loop-source.receptions.items c.loop-source.receptions.items =
    rw c.in-None.ensures.steps.0 none in (
      c.iter-source-items.result,
      c.iter-source-items.ensures.sources,
      subst (λ (sources : List (List ℕ)). HearsEach g.A.PartialEq.eq g.A.Address.bytes g.row.N c.args.times.now
          c.args.change c.args.group sources c.args.receptions.now.items c.loop-source.receptions.items)
          c.into_iter-source-iterator.ensures.into_iter_gives
          (c.loop-source.invariant c.loop-source.receptions.items ends),
    )
