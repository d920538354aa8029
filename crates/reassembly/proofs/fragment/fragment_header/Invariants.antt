-- Some headers are passed.
use Rattle.std.proofs.Common.{length}
use Rattle.reassembly.proofs.Headers.{LeadsLater}
use Rattle.reassembly.proofs.fragment.fragment_header.Given as goal

abbrev pub invariant-headers : goal.invariant-headers
invariant-headers l = LeadsLater l.initial.protocol l.initial.rest l.protocol l.rest

abbrev pub decreases-headers : goal.decreases-headers
decreases-headers l = length l.rest
