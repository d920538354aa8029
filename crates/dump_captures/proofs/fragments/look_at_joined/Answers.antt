-- Its headers are whole, or one of them is torn.
use Rattle.capture.specs.Capture.{packet_of}
use Rattle.dump_captures.specs.Fragments.{IsWithin, joined, torn}
use Rattle.dump_captures.specs.Path.{path_of}
use Rattle.dump_captures.specs.Sight.{sight_of}
use Rattle.frame_wire.specs.Datagram.{value_of as datagram_of}
use Rattle.std.proofs.Common.{subst}
use Rattle.dump_captures.proofs.fragments.look_at_joined.Goals as goal

pub returns-in-Ok : goal.returns-in-Ok
returns-in-Ok c =
    joined (datagram_of c.in-Ok.datagram) (rw c.as_slice-payload.ensures.value at c.in-Ok.ensures.sound)
    (subst (λ options. IsWithin c.args.given.now (packet_of c.args.captured.now c.args.octets.now)
    (path_of c.args.path.now) (record (datagram_of c.in-Ok.datagram) { hop_by_hop = options })
    (sight_of c.look_within.result))
    c.options_of.ensures c.look_within.ensures)

pub returns-in-Err : goal.returns-in-Err
returns-in-Err c =
    torn c.in-Err.refusal (rw c.as_slice-payload.ensures.value at c.in-Err.ensures.refuses)
    (rw (c.reason-reason.ensures, c.is_cut.ensures) at c.told.ensures)
