-- A datagram is read as far as it is there, or refused.
use Rattle.std.proofs.Common.{refl}
use Rattle.frame_wire.specs.UdpCaptured.{captured_of}
use Rattle.packet_pairs.specs.Message.{opened, unopened}
use Rattle.packet_pairs.proofs.exchange.udp_in.Goals as goal

pub returns-in-Ok : goal.returns-in-Ok
returns-in-Ok c = opened (captured_of c.in-Ok.datagram) c.in-Ok.ensures.sound c.service_in.ensures

pub returns-in-Err : goal.returns-in-Err
returns-in-Err c = unopened c.in-Err.field-0 c.in-Err.ensures.refuses refl
