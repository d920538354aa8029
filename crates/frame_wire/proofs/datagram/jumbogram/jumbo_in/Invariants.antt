-- Some options are passed.
use Rattle.frame_wire.proofs.Words.{length}
use Rattle.frame_wire.proofs.Jumbograms.{JumboSoFar}
use Rattle.frame_wire.proofs.datagram.jumbogram.jumbo_in.Given as goal

abbrev pub invariant-options : goal.invariant-options
invariant-options l = JumboSoFar l.initial.rest l.rest

abbrev pub decreases-options : goal.decreases-options
decreases-options l = length l.rest
