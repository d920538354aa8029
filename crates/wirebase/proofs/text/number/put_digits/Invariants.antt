-- The digits so far follow those of what is left.
use Rattle.wirebase.proofs.Words.{◌≡◌, ◌+◌, ◌≤◌, ◌++◌, decimal, drop, length}
use Rattle.wirebase.proofs.text.number.put_digits.Given as goal

abbrev pub invariant-loop-left : goal.invariant-loop-left
invariant-loop-left l = record {
  bound : l.start ≤ 20;
  room : length l.room ≡ 20;
  lengths : l.start + length (decimal l.number) ≡ 20 + length (decimal l.left);
  digits : decimal l.left ++ drop l.start l.room ≡ decimal l.number;
}

abbrev pub decreases-loop-left : goal.decreases-loop-left
decreases-loop-left l = l.left
