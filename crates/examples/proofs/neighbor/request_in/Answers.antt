use Rattle.std.proofs.Common.{Some, ap, subst}
use Rattle.control_wire.specs.Ndisc.{value_of as content_of}
use Rattle.examples.specs.Neighbor.{RequestIn}
use Rattle.examples.specs.declared.neighbor.NeighborRequest.{NeighborRequest}
use Rattle.examples.proofs.Neighbors.{one_request}
use Rattle.examples.proofs.neighbor.request_in.Goals as goal

pub returns-else-not-looks_for-clause-complete : goal.returns-else-not-looks_for-clause-complete
returns-else-not-looks_for-clause-complete c = λ request is.
    let at = c.in-NeighborSolicit in
    ap (λ (r : NeighborRequest). Some r)
    (one_request c.args.peer.now c.args.asked.now request at.target_addr at.lladdr
    (subst (λ m. RequestIn c.args.peer.now c.args.asked.now request (content_of m)) at.is is))
