use Rattle.control_wire.specs.Icmpv6.{mld}
use Rattle.control_wire.specs.Mld.{query}
use Rattle.examples.proofs.listener.read_query.Goals as goal

pub returns-in-Err-clause-complete : goal.returns-in-Err-clause-complete
returns-in-Err-clause-complete c = λ code group sources is.
    c.in-Err.ensures.complete (mld (query code group is.flag is.qrv is.qqic is.count is.behind))
    (rw (c.default-caps.ensures, c.new_unchecked-packet.ensures) is.message)
