use Rattle.std.proofs.Common.{ap, sym, ◌∙◌}
use Rattle.control_wire.specs.Icmpv6.{ndisc, value_of}
use Rattle.examples.proofs.Neighbors.{content_in}
use Rattle.examples.proofs.neighbor.read.Goals as goal

pub returns-in-Err-clause-complete : goal.returns-in-Err-clause-complete
returns-in-Err-clause-complete c = λ v received.
    c.in-Err.ensures.complete (ndisc v) (rw (c.default-caps.ensures, c.new_unchecked-packet.ensures) received.1)

pub returns-clause-complete : goal.returns-clause-complete
returns-clause-complete c = λ v received.
    let whole =
    c.in-Ok.ensures.complete (ndisc v) (rw (c.default-caps.ensures, c.new_unchecked-packet.ensures) received.1) in
    ap (λ m. content_in (value_of m)) (sym c.in-Ndisc.is) ∙ ap content_in whole
