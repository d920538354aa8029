-- This many bytes are tags.
use Rattle.frame_wire.proofs.Words.{◌-◌, length}
use Rattle.frame_wire.proofs.Tags.{SoFar}
use Rattle.frame_wire.proofs.link.untagged.Given as goal

abbrev pub invariant-tags : goal.invariant-tags
invariant-tags l = SoFar l.kind l.octets l.last l.end

abbrev pub decreases-tags : goal.decreases-tags
decreases-tags l = length l.octets - l.end
