use Rattle.examples.proofs.Routers.{told_first, told_later, told_none}
use Rattle.examples.proofs.router.next_prefix.Goals as goal

pub returns-in-Some-prefix_in-clause-first : goal.returns-in-Some-prefix_in-clause-first
returns-in-Some-prefix_in-clause-first c = λ prefixes tells.
    let parts = c.in-Some.ensures.sound in
    let told = told_first c.loop-block.rest.now c.in-Some.block.now c.in-Some.behind.now c.in-Some-prefix_in.prefix
    prefixes parts.0 parts.1 c.in-Some-prefix_in.ensures.sound c.in-Some-prefix_in.ensures.alone
    (c.loop-block.invariant prefixes tells) in
    (told.more, told.first, told.behind)

pub loop-block-preserved : goal.loop-block-preserved
loop-block-preserved c = λ prefixes tells.
    let parts = c.in-Some.ensures.sound in
    told_later c.loop-block.rest.now c.in-Some.block.now c.in-Some.behind.now prefixes parts.0 parts.1
    (λ p reads. let is = c.in_default-prefix_in.is in let told = c.in_default-prefix_in.ensures.complete p reads in cc)
    (c.loop-block.invariant prefixes tells)

pub returns-clause-end : goal.returns-clause-end
returns-clause-end c = λ prefixes tells none.
    told_none c.loop-block.rest.now prefixes (c.split_block.ensures.refuses c.in_default.is)
    (c.loop-block.invariant prefixes tells)
