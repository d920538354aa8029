use Rattle.std.proofs.Common.{arith}
use Rattle.wirebase.proofs.Chains.{chain}
use Rattle.extension_wire.proofs.Labels.{stack_emits}
use Rattle.extension_wire.proofs.mpls.emit.Goals as goal

pub returns : goal.returns
returns c = stack_emits _ _ _ (grind (arith, chain))
