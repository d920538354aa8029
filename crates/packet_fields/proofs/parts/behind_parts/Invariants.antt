-- What stands behind the parts that are left is what stands behind all.
use Rattle.std.proofs.Common.{◌≡◌}
use Rattle.packet_fields.specs.Parts.{behind}
use Rattle.packet_fields.proofs.parts.behind_parts.Given as goal

abbrev pub invariant-loop-left : goal.invariant-loop-left
invariant-loop-left g l = behind g.P.Part.part_len l.left l.rest ≡ behind g.P.Part.part_len l.count l.octets

abbrev pub decreases-loop-left : goal.decreases-loop-left
decreases-loop-left g l = l.left
