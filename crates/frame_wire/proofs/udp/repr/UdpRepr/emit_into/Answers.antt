-- The datagram is at the start, with its checksum or without.
use Rattle.frame_wire.proofs.Words.{◌∙◌, sym}
use Rattle.frame_wire.proofs.UdpFormat.{sealed_emits, unsealed_emits}
use Rattle.frame_wire.proofs.udp.repr.UdpRepr.emit_into.Goals as goal

pub returns-then-tx : goal.returns-then-tx
returns-then-tx c =
    sealed_emits _ _ _ _ _ _ c.requires.fits c.requires.room (sym c.tx.ensures ∙ c.if-tx.true) c.write.ensures
    c.seal.ensures

pub returns-else-tx : goal.returns-else-tx
returns-else-tx c =
    unsealed_emits _ _ _ _ _ c.requires.fits c.requires.room (sym c.tx.ensures ∙ c.if-tx.false) c.write.ensures
