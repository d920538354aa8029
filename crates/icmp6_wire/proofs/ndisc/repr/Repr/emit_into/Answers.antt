use Rattle.std.proofs.Common.{arith}
use Rattle.wirebase.proofs.Chains.{chain}
use Rattle.icmp6_wire.proofs.NdiscFormat.{ndisc_emits}
use Rattle.icmp6_wire.proofs.ndisc.repr.Repr.emit_into.Goals as goal

pub returns : goal.returns
returns c = ndisc_emits _ _ _ (grind (arith, chain))
