-- Each turn reads one argument more.
use Rattle.std.proofs.Common.{arith, refl, subst}
use Rattle.std.proofs.lemmas.Iterator.Consumers.{YieldsList-so_far, YieldsList-turn, YieldsList-end}
use Rattle.std.specs.Prelude.{string_bytes}
use Rattle.dump_captures.specs.Arguments.{help, task_of, unknown, version, wrong_value}
use Rattle.dump_captures.specs.Tasks.{IsTask}
use Rattle.dump_captures.specs.declared.arguments.Task.TheVariants as task
use Rattle.dump_captures.proofs.Words.{skipped, words-all, words-stop}
use Rattle.dump_captures.proofs.arguments.read_task.Goals as goal

pub returns-in-Help-clause-task : goal.returns-in-Help-clause-task
unfolding task_of
returns-in-Help-clause-task c =
    let road = skipped c.args.arguments c.into_iter-argument-iterator.result (omega arith) (cc) (cc) in
    let front = YieldsList-so_far road c.loop-argument.yielded _ c.loop-argument.yielded_by in
    let turn =
    YieldsList-turn road c.loop-argument.yielded _ c.loop-argument.yielded_by _ c.next.new.self
    c.in-Some.argument c.in-Some.is c.next.ensures.steps in
    subst (λ asked. IsTask asked task.Help)
    (words-stop string_bytes _ c.loop-argument.yielded c.in-Some.argument _ help front turn c.loop-argument.invariant
    (rw c.in-Help.is at c.in_ok-read.ensures.step)) refl

pub returns-in-Version-clause-task : goal.returns-in-Version-clause-task
unfolding task_of
returns-in-Version-clause-task c =
    let road = skipped c.args.arguments c.into_iter-argument-iterator.result (omega arith) (cc) (cc) in
    let front = YieldsList-so_far road c.loop-argument.yielded _ c.loop-argument.yielded_by in
    let turn =
    YieldsList-turn road c.loop-argument.yielded _ c.loop-argument.yielded_by _ c.next.new.self
    c.in-Some.argument c.in-Some.is c.next.ensures.steps in
    subst (λ asked. IsTask asked task.Version)
    (words-stop string_bytes _ c.loop-argument.yielded c.in-Some.argument _ version front turn c.loop-argument.invariant
    (rw c.in-Version.is at c.in_ok-read.ensures.step)) refl

pub returns-in-Unknown-clause-task : goal.returns-in-Unknown-clause-task
unfolding task_of
returns-in-Unknown-clause-task c =
    let road = skipped c.args.arguments c.into_iter-argument-iterator.result (omega arith) (cc) (cc) in
    let front = YieldsList-so_far road c.loop-argument.yielded _ c.loop-argument.yielded_by in
    let turn =
    YieldsList-turn road c.loop-argument.yielded _ c.loop-argument.yielded_by _ c.next.new.self
    c.in-Some.argument c.in-Some.is c.next.ensures.steps in
    subst (λ asked. IsTask asked (task.Unknown c.in-Unknown.wrong))
    (words-stop string_bytes _ c.loop-argument.yielded c.in-Some.argument _ (unknown (wrong_value c.in-Unknown.wrong))
    front turn c.loop-argument.invariant
    (rw c.in-Unknown.is at c.in_ok-read.ensures.step)) refl

pub returns-clause-task : goal.returns-clause-task
unfolding task_of
returns-clause-task c =
    let road = skipped c.args.arguments c.into_iter-argument-iterator.result (omega arith) (cc) (cc) in
    let all =
    YieldsList-end road c.loop-argument.yielded _ c.loop-argument.yielded_by _ c.next.new.self c.in-None.is
    c.next.ensures.steps in
    subst (λ asked. IsTask asked c.task.result)
    (words-all string_bytes _ c.loop-argument.yielded _ all.0 c.loop-argument.invariant)
    c.task.ensures
