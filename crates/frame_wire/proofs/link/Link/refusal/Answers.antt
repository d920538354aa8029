-- A frame of each link is read.
use Rattle.frame_wire.proofs.Words.{refl, subst, sym, value_of}
use Rattle.frame_wire.specs.LinkRefusal.{IsRead}
use Rattle.frame_wire.proofs.link.Link.refusal.Goals as goal

pub returns-in-Ok-clause-exact : goal.returns-in-Ok-clause-exact
returns-in-Ok-clause-exact c = (
  λ _.
      subst (λ link. IsRead link c.args.octets.now) (sym c.in-Null.is)
      (value_of c.in-Ok.field-0, c.in-Ok.ensures.sound),
  λ _. refl,
)

pub returns-in-Ok-ppp-clause-exact : goal.returns-in-Ok-ppp-clause-exact
returns-in-Ok-ppp-clause-exact c = (
  λ _.
      subst (λ link. IsRead link c.args.octets.now) (sym c.in-Ppp.is)
      (value_of c.in-Ok-ppp.field-0, c.in-Ok-ppp.ensures.sound),
  λ _. refl,
)

pub returns-in-Ok-raw-clause-exact : goal.returns-in-Ok-raw-clause-exact
returns-in-Ok-raw-clause-exact c = (
  λ _.
      subst (λ link. IsRead link c.args.octets.now) (sym c.in-Raw.is)
      (value_of c.in-Ok-raw.field-0, c.in-Ok-raw.ensures.sound),
  λ _. refl,
)

pub returns-in-Ok-read-clause-exact : goal.returns-in-Ok-read-clause-exact
returns-in-Ok-read-clause-exact c = (
  λ _.
      subst (λ link. IsRead link c.args.octets.now) (sym c.in-FrameRelay.is)
      (value_of c.in-Ok-read.field-0, c.in-Ok-read.ensures.sound),
  λ _. refl,
)

pub returns-in-Ok-ipnet-clause-exact : goal.returns-in-Ok-ipnet-clause-exact
returns-in-Ok-ipnet-clause-exact c = (
  λ _.
      subst (λ link. IsRead link c.args.octets.now) (sym c.in-Ipnet.is)
      (value_of c.in-Ok-ipnet.field-0, c.in-Ok-ipnet.ensures.sound),
  λ _. refl,
)

pub returns-in-Ok-read-2-clause-exact : goal.returns-in-Ok-read-2-clause-exact
returns-in-Ok-read-2-clause-exact c = (
  λ _.
      subst (λ link. IsRead link c.args.octets.now) (sym c.in-Nflog.is)
      (value_of c.in-Ok-read-2.field-0, c.in-Ok-read-2.ensures.sound),
  λ _. refl,
)
