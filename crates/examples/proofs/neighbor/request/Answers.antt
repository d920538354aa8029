use Rattle.std.proofs.Common.{sym, subst}
use Rattle.examples.specs.Neighbor.{RequestIn}
use Rattle.examples.proofs.neighbor.request.Goals as goal

pub returns-in-None-clause-all : goal.returns-in-None-clause-all
returns-in-None-clause-all c = λ request tells. absurd (c.in-None.ensures.complete tells.0 tells.1)

pub returns-in-Some-clause-all : goal.returns-in-Some-clause-all
returns-in-Some-clause-all c = λ request tells.
    c.request_in.ensures.complete request (subst (λ v. RequestIn c.args.peer.now c.args.asked.now request v)
    (sym (c.in-Some.ensures.complete tells.0 tells.1)) tells.2)
