use Rattle.dns_wire.proofs.Words.{length}
use Rattle.dns_wire.proofs.DnsSplit.{IsLeft}
use Rattle.dns_wire.proofs.dns.part.read_part.Given as goal

abbrev pub invariant-loop-rest : goal.invariant-loop-rest
invariant-loop-rest l = IsLeft l.text l.left

abbrev pub decreases-loop-rest : goal.decreases-loop-rest
decreases-loop-rest l = length l.left
