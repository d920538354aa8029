-- The octets begin with a packet, or those after a block show one.
use Rattle.std.proofs.Common.{arith, length-drop, refl, IsTrue, false}
use Rattle.capture.specs.Pcapng.{first}
use Rattle.capture.proofs.Blocks.{shows_behind}
use Rattle.capture.proofs.pcapng.shows_packet.Goals as goal

not_true : IsTrue false → ⊥
not_true told = cc

pub blocks-2-preserved : goal.blocks-2-preserved
blocks-2-preserved c =
    let behind =
    shows_behind c.blocks-2.order c.blocks-2.rest.now c.in-Ok.head _ c.in-Ok.ensures.sound c.in-Ok.ensures.complete
    (omega (arith, c.if-rest-len.false)) (λ begins. not_true (c.blocks-2-test.ensures.1 begins))
    (omega (arith, length-drop c.in-Ok.head.total_len c.blocks-2.rest.now)) in (
      λ shows. c.blocks-2.invariant.0 (behind.0 shows),
      λ shows. behind.1 (c.blocks-2.invariant.1 shows),
    )

pub returns : goal.returns
returns c = (
  λ told. c.blocks-2.invariant.0 (first (c.blocks-2-test.ensures.0 told)),
  λ shows. refl,
)
