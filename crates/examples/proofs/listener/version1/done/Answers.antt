use Rattle.std.proofs.Common.{refl}
use Rattle.std.proofs.lemmas.Option.{IfSome_then}
use Rattle.examples.proofs.listener.version1.done.Goals as goal

pub returns-clause-says : goal.returns-clause-says
returns-clause-says c = IfSome_then c.write.result c.write.ensures.written (λ n e. (_, refl, e))
