-- What is refused behind an address is refused.
use Rattle.frame_wire.proofs.Words.{subst}
use Rattle.frame_wire.specs.LinkRefusal.{RefusesUnnumbered, addressed}
use Rattle.frame_wire.proofs.Tags.{if_err}
use Rattle.frame_wire.proofs.link.frame_relay.read.Goals as goal

pub returns-clause-told : goal.returns-clause-told
returns-clause-told c =
    if_err _ _ c.unnumbered.result
    (λ refusal is.
    addressed c.in_ok-end.end c.in_ok-end.ensures.sound
    (subst (λ rest. RefusesUnnumbered rest refusal) c.behind.ensures is))
    c.unnumbered.ensures.told
