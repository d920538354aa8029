use Rattle.std.proofs.Common.{◌≡◌, false, take}
use Rattle.examples.specs.TimedList.{has}
use Rattle.examples.proofs.timed_list.place_of.Given as goal

-- none of those that were looked at is of the key
abbrev pub invariant-loop-place : goal.invariant-loop-place
invariant-loop-place g l = has (g.T.Entry.is_of l.key) (take l.place l.entries) ≡ false
