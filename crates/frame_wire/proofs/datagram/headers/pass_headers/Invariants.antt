-- Some headers are passed.
use Rattle.frame_wire.proofs.Words.{length, octets_of}
use Rattle.frame_wire.proofs.Headers.{SoFar}
use Rattle.frame_wire.proofs.datagram.headers.pass_headers.Given as goal

abbrev pub invariant-headers : goal.invariant-headers
invariant-headers l =
    SoFar l.initial.protocol l.initial.rest (octets_of l.initial.dst_addr) l.protocol l.rest (octets_of l.dst_addr)

abbrev pub decreases-headers : goal.decreases-headers
decreases-headers l = length l.rest
