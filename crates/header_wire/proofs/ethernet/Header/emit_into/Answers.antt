use Rattle.header_wire.proofs.EthernetFormat.{header_emits}
use Rattle.header_wire.proofs.ethernet.Header.emit_into.Goals as goal

pub returns : goal.returns
returns c = header_emits _ _ _ c.write.ensures
