-- The octets so far are the same.
use Rattle.std.proofs.Common.{◌≡◌, length}
use Rattle.dump_captures.specs.Host.{share}
use Rattle.dump_captures.proofs.host.share.Given as goal

abbrev pub invariant-loop-left : goal.invariant-loop-left
invariant-loop-left l = share l.initial.bits l.initial.left l.initial.right ≡ share l.bits l.left l.right

abbrev pub decreases-loop-left : goal.decreases-loop-left
decreases-loop-left l = length l.left
