-- Some headers are passed.
use Rattle.std.proofs.Common.{length}
use Rattle.quote_wire.proofs.Headers.{SoFar}
use Rattle.quote_wire.proofs.quote.upper.lead.Given as goal

abbrev pub invariant-headers : goal.invariant-headers
invariant-headers l = SoFar l.initial.protocol l.initial.rest l.protocol l.rest

abbrev pub decreases-headers : goal.decreases-headers
decreases-headers l = length l.rest
