use Rattle.record_wire.proofs.Words.{◌+◌, length}
use Rattle.record_wire.proofs.NameRefusals.{IsAt}
use Rattle.record_wire.proofs.name.put_name.Given as goal

abbrev pub invariant-loop-octets : goal.invariant-loop-octets
invariant-loop-octets l = IsAt l.bytes l.message l.octets.items l.left l.reach l.pointers

abbrev pub decreases-loop-octets : goal.decreases-loop-octets
decreases-loop-octets l = length l.left + length l.reach
