use Rattle.header_wire.proofs.HeaderFormat.{header_emits}
use Rattle.header_wire.proofs.ipv4.Header.emit_into.Goals as goal

pub returns : goal.returns
returns c = header_emits _ _ _ _ c.requires.room c.buffer_len.ensures c.write.ensures
