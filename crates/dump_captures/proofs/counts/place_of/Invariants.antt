-- The category is not among the rows that were looked at.
use Rattle.std.proofs.Common.{◌≡◌, false, take}
use Rattle.dump_captures.specs.Counts.{has_category}
use Rattle.dump_captures.proofs.counts.place_of.Given as goal

abbrev pub invariant-loop-place : goal.invariant-loop-place
invariant-loop-place l = has_category l.category (take l.place l.rows) ≡ false
