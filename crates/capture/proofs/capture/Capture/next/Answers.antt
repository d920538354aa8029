-- The first packet is given, or what ends the capture.
use Rattle.std.proofs.Common.{◌∙◌}
use Rattle.capture.specs.Capture.{state_of, octets_of}
use Rattle.capture.proofs.Units.{so_far-more, so_far-ended, so_far-packet}
use Rattle.capture.proofs.capture.Capture.next.Goals as goal

pub steps-preserved : goal.steps-preserved
steps-preserved g c = record {
  so_far = so_far-more _ _ _ _ _ c.in_ok-read_step.ensures.gives c.in-Passed.is _ c.steps.invariant.so_far;
  count = c.in_ok-read_step.ensures.count ∙ c.steps.invariant.count;
}

pub returns-in-Packet-clause-next : goal.returns-in-Packet-clause-next
returns-in-Packet-clause-next g c =
    so_far-packet _ _ _ _ _ c.in_ok-read_step.ensures.gives c.in-Packet.packet c.in-Packet.is c.record.result
    (state_of c.record.new.self) (octets_of c.record.new.self) c.record.ensures.packet c.record.ensures.state _
    c.steps.invariant.so_far

pub returns-in-Ended-clause-next : goal.returns-in-Ended-clause-next
returns-in-Ended-clause-next g c =
    so_far-ended _ _ _ _ _ c.in_ok-read_step.ensures.gives c.in-Ended.ending c.in-Ended.is _
    c.steps.invariant.so_far
