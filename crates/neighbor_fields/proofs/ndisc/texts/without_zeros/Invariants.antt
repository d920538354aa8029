-- What was passed is zeros.
use Rattle.std.proofs.Common.{◌≡◌, ◌≤◌, length, take}
use Rattle.neighbor_fields.specs.NdiscTexts.{without_zeros}
use Rattle.neighbor_fields.proofs.ndisc.texts.without_zeros.Given as goal

abbrev pub invariant-loop-end : goal.invariant-loop-end
invariant-loop-end l =
    (l.end ≤ length l.fn.octets) × (without_zeros (take l.end l.fn.octets) ≡ without_zeros l.fn.octets)

abbrev pub decreases-loop-end : goal.decreases-loop-end
decreases-loop-end l = l.end
