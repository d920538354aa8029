use Rattle.record_wire.proofs.Words.{AreMaps, length}
use Rattle.record_wire.proofs.rdata.fields.are_maps.Given as goal

abbrev pub invariant-loop-left : goal.invariant-loop-left
invariant-loop-left l = record {
  back : AreMaps l.left → AreMaps l.octets;
  forth : AreMaps l.octets → AreMaps l.left;
}

abbrev pub decreases-loop-left : goal.decreases-loop-left
decreases-loop-left l = length l.left
