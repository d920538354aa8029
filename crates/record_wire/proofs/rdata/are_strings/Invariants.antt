use Rattle.record_wire.proofs.Words.{AreStrings, length}
use Rattle.record_wire.proofs.rdata.are_strings.Given as goal

abbrev pub invariant-loop-left : goal.invariant-loop-left
invariant-loop-left l = record {
  back : AreStrings l.left → AreStrings l.octets;
  forth : AreStrings l.octets → AreStrings l.left;
}

abbrev pub decreases-loop-left : goal.decreases-loop-left
decreases-loop-left l = length l.left
