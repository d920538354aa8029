-- What is told of the records that are left is what is told of all.
use Rattle.std.proofs.Common.{◌≡◌}
use Rattle.neighbor_fields.specs.Records.{records_lack}
use Rattle.neighbor_fields.proofs.records.records_lack.Given as goal

abbrev pub invariant-loop-left : goal.invariant-loop-left
invariant-loop-left l = records_lack l.width l.left l.rest ≡ records_lack l.width l.count l.octets

abbrev pub decreases-loop-left : goal.decreases-loop-left
decreases-loop-left l = l.left
