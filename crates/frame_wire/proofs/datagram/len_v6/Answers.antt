-- The option has the length of a jumbogram.
use Rattle.frame_wire.proofs.Words.{refl, subst}
use Rattle.frame_wire.specs.Datagram.{jumbo}
use Rattle.frame_wire.specs.DatagramJumbogram.{HasJumboLen}
use Rattle.frame_wire.proofs.Tags.{told}
use Rattle.frame_wire.proofs.datagram.len_v6.Goals as goal

pub returns-in-Some-clause-ends : goal.returns-in-Some-clause-ends
returns-in-Some-clause-ends c =
    jumbo c.in-Some.len (told _ c.is_jumbogram.ensures c.if-not-is_jumbogram.false)
    (subst (λ l. HasJumboLen l c.in-Some.len) c.behind.ensures c.in-Some.ensures.found) refl
