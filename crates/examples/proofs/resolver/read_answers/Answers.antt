use Rattle.examples.proofs.resolver.read_answers.Goals as goal

pub returns-in-None-clause-response : goal.returns-in-None-clause-response
returns-in-None-clause-response c = λ rest is. c.in-None.ensures.all rest is.asks
