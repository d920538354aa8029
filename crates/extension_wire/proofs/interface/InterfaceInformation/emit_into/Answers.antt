use Rattle.std.proofs.Common.{arith}
use Rattle.wirebase.proofs.Chains.{chain}
use Rattle.extension_wire.proofs.InterfaceFormat.{information_emits}
use Rattle.extension_wire.proofs.interface.InterfaceInformation.emit_into.Goals as goal

pub returns : goal.returns
returns c = information_emits _ _ _ c.requires (grind (arith, chain))
