use Rattle.opt_wire.proofs.Words.{arith, chain}
use Rattle.opt_wire.proofs.NdiscOptionFormat.{option_emits}
use Rattle.opt_wire.proofs.ndiscoption.repr.Repr.emit_into.Goals as goal

pub returns : goal.returns
returns c = option_emits _ _ _ c.requires.sound c.requires.room (grind (arith, chain))
