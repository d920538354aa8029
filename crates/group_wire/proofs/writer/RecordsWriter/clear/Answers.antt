use Rattle.std.proofs.Common.{refl}
use Rattle.group_wire.specs.Family.{width}
use Rattle.group_wire.proofs.RecordsAhead.{len-none}
use Rattle.group_wire.proofs.writer.RecordsWriter.clear.Goals as goal

pub invariant_of-self-clause-whole : goal.invariant_of-self-clause-whole
invariant_of-self-clause-whole g c = len-none (width g.A.Address.family) 0 _ refl
