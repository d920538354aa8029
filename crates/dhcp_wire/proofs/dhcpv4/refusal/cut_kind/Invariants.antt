use Rattle.dhcp_wire.proofs.Words.{Ends, Option, ℕ, length}
use Rattle.dhcp_wire.proofs.dhcpv4.refusal.cut_kind.Given as goal

-- as what is left ends, so do all
abbrev pub invariant-loop-first : goal.invariant-loop-first
invariant-loop-first l = (cut : Option ℕ) → Ends l.rest cut → Ends l.octets cut

abbrev pub decreases-loop-first : goal.decreases-loop-first
decreases-loop-first l = length l.rest
