use Rattle.std.proofs.Common.{arith}
use Rattle.wirebase.proofs.Chains.{chain}
use Rattle.extension_wire.proofs.Labels.{entry_emits}
use Rattle.extension_wire.proofs.mpls.LabelEntry.emit_into.Goals as goal

pub returns : goal.returns
returns c = entry_emits _ _ _ (grind (arith, chain))
