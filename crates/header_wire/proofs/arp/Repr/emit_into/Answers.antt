use Rattle.header_wire.proofs.ArpFormat.{packet_emits}
use Rattle.header_wire.proofs.arp.Repr.emit_into.Goals as goal

pub returns : goal.returns
returns c = packet_emits _ _ _ c.write.ensures
