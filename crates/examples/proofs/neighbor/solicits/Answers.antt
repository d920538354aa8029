use Rattle.std.proofs.Common.{sym, subst}
use Rattle.control_wire.specs.Ndisc.{value_of as content_of}
use Rattle.examples.specs.Neighbor.{LooksFor}
use Rattle.examples.proofs.neighbor.solicits.Goals as goal

pub returns-in-None : goal.returns-in-None
returns-in-None c = (λ t. cc, λ asks. absurd (c.in-None.ensures.complete asks.0 asks.1))

pub returns-in-Some : goal.returns-in-Some
returns-in-Some c = (
  λ t. (content_of c.in-Some.message, c.in-Some.ensures.sound, c.looks_for.ensures.0 t),
  λ asks. c.looks_for.ensures.1 (subst (λ v. LooksFor c.args.peer.now c.args.asked.now c.args.own.now v)
      (sym (c.in-Some.ensures.complete asks.0 asks.1)) asks.2),
)
