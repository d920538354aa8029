use Rattle.std.proofs.Common.{arith}
use Rattle.wirebase.proofs.Chains.{chain}
use Rattle.extension_wire.proofs.ObjectFormat.{object_emits}
use Rattle.extension_wire.proofs.object.Object.emit_into.Goals as goal

pub returns : goal.returns
returns c = object_emits _ _ _ (grind (arith, chain))
