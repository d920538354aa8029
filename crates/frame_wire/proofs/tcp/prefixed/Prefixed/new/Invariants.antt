-- The messages up to the octets that are left are whole, and none is too short.
use Rattle.frame_wire.proofs.Words.{length}
use Rattle.frame_wire.proofs.Messages.{SoFar}
use Rattle.frame_wire.proofs.tcp.prefixed.Prefixed.new.Given as goal

abbrev pub invariant-messages : goal.invariant-messages
invariant-messages l = SoFar l.least l.octets l.left

abbrev pub decreases-messages : goal.decreases-messages
decreases-messages l = length l.left
