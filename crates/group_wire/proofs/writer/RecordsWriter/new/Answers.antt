use Rattle.std.proofs.Common.{arith, refl}
use Rattle.group_wire.specs.Family.{width}
use Rattle.group_wire.proofs.RecordsAhead.{len-none}
use Rattle.group_wire.proofs.writer.RecordsWriter.new.Goals as goal

pub invariant_of-result : goal.invariant_of-result
invariant_of-result g c = record {
  within = omega arith;
  whole = len-none (width g.A.Address.family) 0 _ refl;
}
