-- The bytes so far.
use Rattle.record_wire.proofs.Words.{◌≡◌, ◌≤◌, count_by, is_usual, take}
use Rattle.record_wire.proofs.name.dotted.count_usual.Given as goal

abbrev pub invariant-loop-byte : goal.invariant-loop-byte
invariant-loop-byte l = record {
  few : l.count ≤ l.byte-index;
  count : l.count ≡ count_by is_usual (take l.byte-index l.text);
}
