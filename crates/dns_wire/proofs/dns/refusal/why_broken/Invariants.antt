use Rattle.dns_wire.proofs.Words.{◌+◌, NameRefusal, length}
use Rattle.dns_wire.proofs.DnsNameRoutes.{Ends, Some_route}
use Rattle.dns_wire.proofs.DnsNameBreaks.{BreaksFor}
use Rattle.dns_wire.proofs.dns.refusal.why_broken.Given as goal

abbrev pub invariant-loop-rest : goal.invariant-loop-rest
invariant-loop-rest l = record {
  ends : Some_route Ends l.left l.reach → Some_route Ends l.text l.message;
  breaks : (reason : NameRefusal) → Some_route (BreaksFor reason) l.left l.reach
      → Some_route (BreaksFor reason) l.text l.message;
}

abbrev pub decreases-loop-rest : goal.decreases-loop-rest
decreases-loop-rest l = length l.left + length l.reach
