-- The attributes up to the ones that are left are passed.
use Rattle.frame_wire.proofs.Words.{length}
use Rattle.frame_wire.proofs.Attributes.{SoFar}
use Rattle.frame_wire.proofs.link.nflog.packet.Given as goal

abbrev pub invariant-attributes : goal.invariant-attributes
invariant-attributes l = SoFar l.lowest_first l.attributes l.rest

abbrev pub decreases-attributes : goal.decreases-attributes
decreases-attributes l = length l.rest
