use Rattle.std.proofs.Common.{List, ℕ, subst, sym}
use Rattle.examples.specs.Reporter.{KeepsEach, next, none}
use Rattle.examples.specs.declared.reporter.reported.AskedSource.{AskedSource}
use Rattle.examples.proofs.reporter.sources.keep_sources.Goals as goal

pub loop-source-preserved : goal.loop-source-preserved
loop-source-preserved g c = λ new rest.
    let behind = subst (λ (asked : List (AskedSource g.row.A.Denot)). KeepsEach g.A.PartialEq.eq g.A.Address.bytes
    c.args.group.now c.next.new.self asked new) c.keep_source.ensures rest in
    c.loop-source.invariant new
    (subst (λ (sources : List (List ℕ)). KeepsEach g.A.PartialEq.eq g.A.Address.bytes c.args.group.now sources
    c.loop-source.asked.items new)
    (sym c.in-Some.ensures.steps) (next c.in-Some.source behind))

pub returns : goal.returns
returns g c =
    let ends : KeepsEach g.A.PartialEq.eq g.A.Address.bytes c.args.group.now c.loop-source.source-iterator
    c.loop-source.asked.items c.loop-source.asked.items = rw c.in-None.ensures.steps.0 none in (
      c.iter-source-items.result,
      c.iter-source-items.ensures.sources,
      subst (λ (sources : List (List ℕ)). KeepsEach g.A.PartialEq.eq g.A.Address.bytes c.args.group.now sources
          c.args.asked.now.items c.loop-source.asked.items)
          c.into_iter-source-iterator.ensures.into_iter_gives
          (c.loop-source.invariant c.loop-source.asked.items ends),
    )
