-- What is counted so far.
use Rattle.wirebase.specs.Bytes.{number_of}
use Rattle.dns_wire.specs.DnsPacket.{payload_in, question_count_field, view_octets}
use Rattle.packet_stats.specs.Stats.{state_of}
use Rattle.packet_stats.proofs.AskedInTurn.{AreCounted}
use Rattle.packet_stats.proofs.stats.Stats.count_questions.Given as goal

abbrev pub invariant-loop-more : goal.invariant-loop-more
invariant-loop-more l =
    AreCounted (view_octets l.packet) (payload_in (view_octets l.packet))
    (number_of question_count_field (view_octets l.packet)) (state_of l.initial.self) l.left l.more (state_of l.self)

abbrev pub decreases-loop-more : goal.decreases-loop-more
decreases-loop-more l = l.more
