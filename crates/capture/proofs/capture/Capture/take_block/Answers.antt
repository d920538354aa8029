-- A block is taken by its kind.
use Rattle.std.proofs.Common.{subst}
use Rattle.capture.specs.Pcapng.{IsClosed}
use Rattle.capture.proofs.Sections.{section_takes, interface_takes, packet_takes, if_ok, told}
use Rattle.capture.proofs.capture.Capture.take_block.Goals as goal

pub returns-then-head-eq-SECTION-clause-takes : goal.returns-then-head-eq-SECTION-clause-takes
returns-then-head-eq-SECTION-clause-takes c whole =
    section_takes _ c.args.head _ _ whole
    (subst (IsClosed c.args.head.order) c.as_slice.ensures.value (told _ c.is_closed.ensures c.if-not-is_closed.false))
    c.if-head-eq-SECTION.true _ _ c.take_section.ensures.takes

pub returns-then-head-eq-INTERFACE-clause-takes : goal.returns-then-head-eq-INTERFACE-clause-takes
returns-then-head-eq-INTERFACE-clause-takes c =
    if_ok _ _ c.take_interface.result
    (λ s t whole. interface_takes _ c.args.head _ _ whole
    (subst (IsClosed c.args.head.order) c.as_slice.ensures.value (told _ c.is_closed.ensures c.if-not-is_closed.false))
    c.if-head-eq-INTERFACE.true s _ t) c.take_interface.ensures.takes

pub returns-clause-takes : goal.returns-clause-takes
returns-clause-takes c whole =
    packet_takes _ c.args.head _ _ whole
    (subst (IsClosed c.args.head.order) c.as_slice.ensures.value (told _ c.is_closed.ensures c.if-not-is_closed.false))
    c.if-head-eq-SECTION.false c.if-head-eq-INTERFACE.false _ c.take_packet.ensures.takes
