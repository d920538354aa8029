use Rattle.std.proofs.Common.{◌≡◌, ◌≤◌, ◌-◌, length}
use Rattle.neighbor_wire.specs.private.Names.{more, walk}
use Rattle.neighbor_wire.proofs.names.name_len.Given as goal

-- the bytes of the labels that were passed, and those of the others
abbrev pub invariant-loop-rest : goal.invariant-loop-rest
invariant-loop-rest l =
    (length l.rest ≤ length l.fn.octets)
    × (walk 0 l.fn.octets ≡ more (length l.fn.octets - length l.rest) (walk 0 l.rest))

abbrev pub decreases-loop-rest : goal.decreases-loop-rest
decreases-loop-rest l = length l.rest
