-- The messages so far are printed.
use Rattle.std.proofs.Common.{length}
use Rattle.frame_wire.specs.TcpPrefixed.{messages_of}
use Rattle.dump_captures.specs.Arrival.{arrival_of}
use Rattle.dump_captures.specs.Sight.{stream_of}
use Rattle.dump_captures.specs.private.Kept.{session_of}
use Rattle.dump_captures.proofs.MessageTexts.{PrintedSoFar}
use Rattle.dump_captures.proofs.packets.show_segment.Given as goal

abbrev pub invariant-loop-message : goal.invariant-loop-message
invariant-loop-message g l =
    PrintedSoFar l.options (arrival_of l.arrival) (stream_of l.segment) (session_of l.initial.session)
    (g.W.Write.contents l.initial.output) (messages_of l.segment.messages) l.messages l.outcome
    (session_of l.session) (g.W.Write.contents l.output)

abbrev pub decreases-loop-message : goal.decreases-loop-message
decreases-loop-message g l = length l.messages
