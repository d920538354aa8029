use Rattle.dns_wire.proofs.Words.{◌≡◌, ◌+◌, ◌*◌, ◌<◌, ◌^◌, ahead_of, length}
use Rattle.dns_wire.proofs.dns.name.NameIterIterator.next.Given as goal

abbrev pub invariant-loop-label : goal.invariant-loop-label
invariant-loop-label l =
    let it = l.self-inside in
    record {
      same : ahead_of it.steps it.left.now it.reach.now ≡ l.fn.self.ahead;
      room : 2 * it.steps + length it.left.now + length it.reach.now < 2 ^ 65;
    }

abbrev pub decreases-loop-label : goal.decreases-loop-label
decreases-loop-label l = length l.self-inside.left.now + length l.self-inside.reach.now
