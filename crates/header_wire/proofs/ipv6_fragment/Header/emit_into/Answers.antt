use Rattle.header_wire.proofs.Ipv6FragmentFormat.{header_emits}
use Rattle.header_wire.proofs.ipv6_fragment.Header.emit_into.Goals as goal

pub returns : goal.returns
returns c = header_emits _ _ _ c.write.ensures
