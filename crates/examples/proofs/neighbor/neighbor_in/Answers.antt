use Rattle.std.proofs.Common.{Some, ap, subst}
use Rattle.control_wire.specs.Ndisc.{value_of as content_of}
use Rattle.examples.specs.Neighbor.{NeighborIn}
use Rattle.examples.specs.declared.neighbor.NeighborInformation.{NeighborInformation}
use Rattle.examples.proofs.Neighbors.{one_neighbor}
use Rattle.examples.proofs.neighbor.neighbor_in.Goals as goal

pub returns-else-solicited-clause-complete : goal.returns-else-solicited-clause-complete
returns-else-solicited-clause-complete c = λ neighbor is.
    let at = c.in-NeighborAdvert in
    ap (λ (n : NeighborInformation). Some n)
    (one_neighbor c.args.destination.now neighbor at.flags at.target_addr at.lladdr
    (subst (λ m. NeighborIn c.args.destination.now neighbor (content_of m)) at.is is))
