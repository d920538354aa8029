use Rattle.opt_wire.proofs.Words.{arith, chain}
use Rattle.opt_wire.proofs.Ipv6OptionFormat.{option_emits}
use Rattle.opt_wire.proofs.ipv6option.Repr.emit_into.Goals as goal

pub returns : goal.returns
returns c = option_emits _ _ _ c.requires.enough c.requires.room (grind (arith, chain))
