use Rattle.opt_wire.proofs.Words.{arith, chain}
use Rattle.opt_wire.proofs.Ipv6HbhFormat.{header_emits}
use Rattle.opt_wire.proofs.ipv6hbh.Repr.emit_into.Goals as goal

pub returns : goal.returns
returns c = header_emits 8 _ _ _ (omega arith) c.requires.enough c.requires.room
    (grind (arith, chain))
