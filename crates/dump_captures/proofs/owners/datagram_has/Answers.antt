-- The datagram is there, at least in part, or not.
use Rattle.frame_wire.specs.UdpCaptured.{captured_of}
use Rattle.dump_captures.specs.Owners.{opened, unopened}
use Rattle.dump_captures.proofs.owners.datagram_has.Goals as goal

pub returns-in-Ok : goal.returns-in-Ok
returns-in-Ok c = opened (captured_of c.in-Ok.datagram) _ c.in-Ok.ensures.sound c.message_has.ensures

pub returns-in-Err : goal.returns-in-Err
returns-in-Err c = unopened _ c.in-Err.ensures.refuses
