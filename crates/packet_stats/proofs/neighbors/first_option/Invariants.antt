-- The first option of those that are left is the first of all.
use Rattle.std.proofs.Common.{◌≡◌, length}
use Rattle.std.specs.Prelude.{find}
use Rattle.packet_stats.specs.Neighbors.{is_of, options_in}
use Rattle.packet_stats.proofs.neighbors.first_option.Given as goal

abbrev pub invariant-loop-left : goal.invariant-loop-left
invariant-loop-left l =
    find (is_of l.type_ l.units) (options_in l.left) ≡ find (is_of l.type_ l.units) (options_in l.options)

abbrev pub decreases-loop-left : goal.decreases-loop-left
decreases-loop-left l = length l.left
