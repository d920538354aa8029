-- The last type of the tags is that of what follows them.
use Rattle.frame_wire.proofs.Words.{typed_of}
use Rattle.frame_wire.proofs.Tags.{if_ok}
use Rattle.frame_wire.proofs.link.read_typed.Goals as goal

pub returns-clause-sound : goal.returns-clause-sound
returns-clause-sound c =
    if_ok _ _ c.payload_of.result
    (λ f is. record { typed = typed_of c.in_ok-typed.typed; tagged = c.in_ok-typed.ensures.sound; payload = is })
    c.payload_of.ensures.sound
