-- Some headers are passed.
use Rattle.frame_wire.proofs.Words.{length}
use Rattle.frame_wire.proofs.Headers.{FragmentSoFar}
use Rattle.frame_wire.proofs.datagram.jumbogram.has_fragment.Given as goal

abbrev pub invariant-headers : goal.invariant-headers
invariant-headers l = FragmentSoFar l.initial.protocol l.initial.rest l.protocol l.rest

abbrev pub decreases-headers : goal.decreases-headers
decreases-headers l = length l.rest
