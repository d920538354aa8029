-- The times before this place are not greater.
use Rattle.std.proofs.Common.{◌<◌, ◌≤◌, get_or, ℕ}
use Rattle.packet_stats.proofs.times.place_in.Given as goal

abbrev pub invariant-loop-place : goal.invariant-loop-place
invariant-loop-place l = (k : ℕ) → k < l.place → get_or l.times k 0 ≤ l.time
