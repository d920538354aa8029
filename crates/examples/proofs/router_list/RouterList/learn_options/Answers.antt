use Rattle.std.proofs.Common.{List, subst}
use Rattle.neighbor_wire.specs.Options.{Answer}
use Rattle.examples.specs.RouterList.{LearnsAll, ends, lists_of}
use Rattle.examples.proofs.RouterLists.{learns_more, passes_over}
use Rattle.examples.proofs.router_list.RouterList.learn_options.Goals as goal

pub loop-option-preserved : goal.loop-option-preserved
loop-option-preserved c = λ new rest.
    c.loop-option.invariant new
    (passes_over c.args.source.now (lists_of c.loop-option.self) new c.loop-option.option-iterator c.next.new.self
    c.in-Some.option c.in_default.not-Ok c.in-Some.ensures.steps rest)

pub loop-option-preserved-in-Ok : goal.loop-option-preserved-in-Ok
loop-option-preserved-in-Ok c = λ new rest.
    c.loop-option.invariant new
    (learns_more c.args.source.now (lists_of c.loop-option.self) (lists_of c.learn_option.new.self) new
    c.loop-option.option-iterator c.next.new.self c.in-Some.option c.in-Ok.option c.in-Ok.is c.in-Some.ensures.steps
    c.learn_option.ensures rest)

pub returns : goal.returns
returns c =
    let source = c.args.source.now in
    let lists = lists_of c.loop-option.self in
    let done : LearnsAll source c.loop-option.option-iterator lists lists =
    rw c.in-None.ensures.steps.0 ends in (
      c.new-option-items.result,
      c.new-option-items.ensures.tile,
      subst (λ (answers : List Answer). LearnsAll source answers (lists_of c.args.self.now) lists)
          c.into_iter-option-iterator.ensures.into_iter_gives
          (c.loop-option.invariant lists done),
    )
