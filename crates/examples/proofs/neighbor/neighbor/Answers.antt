use Rattle.std.proofs.Common.{sym, subst}
use Rattle.examples.specs.Neighbor.{NeighborIn}
use Rattle.examples.proofs.neighbor.neighbor.Goals as goal

pub returns-in-None-clause-all : goal.returns-in-None-clause-all
returns-in-None-clause-all c = λ neighbor tells. absurd (c.in-None.ensures.complete tells.0 tells.1)

pub returns-in-Some-clause-all : goal.returns-in-Some-clause-all
returns-in-Some-clause-all c = λ neighbor tells.
    c.neighbor_in.ensures.complete neighbor (subst (λ v. NeighborIn c.args.destination.now neighbor v)
    (sym (c.in-Some.ensures.complete tells.0 tells.1)) tells.2)
