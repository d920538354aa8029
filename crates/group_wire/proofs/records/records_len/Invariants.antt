use Rattle.std.proofs.Common.{◌≡◌, ◌+◌, ◌-◌, ◌≤◌, length}
use Rattle.group_wire.specs.Family.{width}
use Rattle.group_wire.specs.Records.{records_len_in}
use Rattle.group_wire.proofs.records.records_len.Given as goal

-- the bytes of the records that were passed, and those of the others
abbrev pub invariant-loop-left : goal.invariant-loop-left
invariant-loop-left g l =
    (length l.rest ≤ length l.fn.octets)
    × (records_len_in (width g.A.Address.family) l.fn.count l.fn.octets
    ≡ (length l.fn.octets - length l.rest) + records_len_in (width g.A.Address.family) l.left l.rest)

abbrev pub decreases-loop-left : goal.decreases-loop-left
decreases-loop-left g l = l.left
