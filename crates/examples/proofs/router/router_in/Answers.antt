use Rattle.std.proofs.Common.{Some, ap}
use Rattle.control_wire.specs.Ndisc.{value_of as content_of}
use Rattle.examples.specs.declared.router.RouterInformation.{RouterInformation}
use Rattle.examples.proofs.Neighbors.{one_router}
use Rattle.examples.proofs.router.router_in.Goals as goal

pub returns-in-RouterAdvert-clause-complete : goal.returns-in-RouterAdvert-clause-complete
returns-in-RouterAdvert-clause-complete c = λ router is.
    let at = c.in-RouterAdvert in
    ap (λ (r : RouterInformation). Some r)
    (one_router router at.hop_limit at.flags at.router_lifetime at.reachable_time at.retrans_time at.lladdr at.mtu
    (ap content_of at.is) is)
