-- What is counted so far.
use Rattle.std.proofs.Common.{length}
use Rattle.wirebase.specs.Ipv6Address.{octets_of}
use Rattle.packet_stats.specs.Neighbors.{prefixes_said}
use Rattle.packet_stats.specs.Stats.{state_of}
use Rattle.packet_stats.proofs.Turns.{AreSaid}
use Rattle.packet_stats.proofs.stats.Stats.count_prefixes.Given as goal

abbrev pub invariant-loop-left : goal.invariant-loop-left
invariant-loop-left l =
    AreSaid (state_of l.initial.self) (prefixes_said (octets_of l.source) l.options)
    (prefixes_said (octets_of l.source) l.left) (state_of l.self)

abbrev pub decreases-loop-left : goal.decreases-loop-left
decreases-loop-left l = length l.left
