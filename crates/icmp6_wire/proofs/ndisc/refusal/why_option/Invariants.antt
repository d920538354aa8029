use Rattle.std.proofs.Common.{length}
use Rattle.icmp6_wire.specs.NdiscRefusal.{AreWholeUpTo}
use Rattle.icmp6_wire.proofs.ndisc.refusal.why_option.Given as goal

-- the options so far are whole
abbrev pub invariant-loop-block : goal.invariant-loop-block
invariant-loop-block l = AreWholeUpTo l.octets l.place l.rest

abbrev pub decreases-loop-block : goal.decreases-loop-block
decreases-loop-block l = length l.rest
