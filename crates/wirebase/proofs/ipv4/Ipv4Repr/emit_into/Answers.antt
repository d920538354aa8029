use Rattle.wirebase.proofs.Ipv4Header.{header_emits}
use Rattle.wirebase.proofs.ipv4.Ipv4Repr.emit_into.Goals as goal

pub returns : goal.returns
returns c = header_emits _ _ _ _ c.requires.count c.requires.room c.write.ensures
