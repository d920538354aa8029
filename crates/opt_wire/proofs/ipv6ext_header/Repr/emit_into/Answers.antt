use Rattle.opt_wire.proofs.Ipv6ExtHeaderText.{header_emits}
use Rattle.opt_wire.proofs.ipv6ext_header.Repr.emit_into.Goals as goal

pub returns : goal.returns
returns c = header_emits _ _ _ c.write.ensures
