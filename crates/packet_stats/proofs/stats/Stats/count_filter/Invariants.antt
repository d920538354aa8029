-- What is counted so far, and the octets of the sources that are left.
use Rattle.std.proofs.Common.{◌*◌, ◌≤◌, length}
use Rattle.packet_stats.specs.Groups.{sources_said}
use Rattle.packet_stats.specs.Stats.{state_of}
use Rattle.packet_stats.specs.Subject.{octets_in}
use Rattle.packet_stats.proofs.Turns.{AreSaid}
use Rattle.packet_stats.proofs.stats.Stats.count_filter.Given as goal

abbrev pub invariant-loop-more : goal.invariant-loop-more
invariant-loop-more l =
    AreSaid (state_of l.initial.self)
    (sources_said l.width (octets_in l.group) (octets_in l.host) l.mode l.initial.more l.initial.left)
    (sources_said l.width (octets_in l.group) (octets_in l.host) l.mode l.more l.left) (state_of l.self)
    × (l.width * l.more ≤ length l.left)

abbrev pub decreases-loop-more : goal.decreases-loop-more
decreases-loop-more l = l.more
