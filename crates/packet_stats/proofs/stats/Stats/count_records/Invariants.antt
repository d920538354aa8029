-- What is counted so far.
use Rattle.packet_stats.specs.Groups.{records_said}
use Rattle.packet_stats.specs.Stats.{state_of}
use Rattle.packet_stats.specs.Subject.{octets_in}
use Rattle.packet_stats.proofs.Turns.{AreSaid}
use Rattle.packet_stats.proofs.stats.Stats.count_records.Given as goal

abbrev pub invariant-loop-more : goal.invariant-loop-more
invariant-loop-more l =
    AreSaid (state_of l.initial.self) (records_said l.width (octets_in l.host) l.count l.octets)
    (records_said l.width (octets_in l.host) l.more l.left) (state_of l.self)

abbrev pub decreases-loop-more : goal.decreases-loop-more
decreases-loop-more l = l.more
