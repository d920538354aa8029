-- The sums of the first rows.
use Rattle.std.proofs.Common.{◌≡◌, length, map, take}
use Rattle.packet_stats.specs.private.Sums.{sum_in}
use Rattle.packet_stats.proofs.sum.sum_again.Given as goal

abbrev pub invariant-loop-place : goal.invariant-loop-place
invariant-loop-place l = record {
  len : length l.sums ≡ length l.rows;
  first : take l.place l.sums ≡ map sum_in (take l.place l.rows);
}
