use Rattle.std.proofs.lemmas.Bool.{false≢true}
use Rattle.examples.proofs.router_list.RouterList.learn.Goals as goal

pub returns-in-None-clause-told : goal.returns-in-None-clause-told
returns-in-None-clause-told c = (
  λ is. absurd (false≢true is),
  λ told. let other = c.in-None.ensures.all told.0 told.1 in cc,
)
