use Rattle.std.proofs.Common.{◌≡◌, ◌≤◌, length, take}
use Rattle.neighbor_wire.specs.Option.{strip}
use Rattle.neighbor_wire.proofs.option.reading.without_zeros.Given as goal

-- what was passed is zeros
abbrev pub invariant-loop-end : goal.invariant-loop-end
invariant-loop-end l =
    (l.end ≤ length l.fn.octets) × (strip (take l.end l.fn.octets) ≡ strip l.fn.octets)

abbrev pub decreases-loop-end : goal.decreases-loop-end
decreases-loop-end l = l.end
