use Rattle.std.proofs.Common.{arith}
use Rattle.wirebase.proofs.Chains.{chain}
use Rattle.extension_wire.proofs.WriterFormat.{data_emits}
use Rattle.extension_wire.proofs.writer.ErrorData.emit_into.Goals as goal

pub returns : goal.returns
returns c = data_emits _ _ _ (grind (arith, chain))
