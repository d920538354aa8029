-- A segment is read, or refused.
use Rattle.std.proofs.Common.{refl}
use Rattle.frame_wire.specs.Tcp.{value_of}
use Rattle.packet_pairs.specs.Message.{in_segment, no_segment}
use Rattle.packet_pairs.proofs.exchange.tcp_in.Goals as goal

pub returns-in-Ok : goal.returns-in-Ok
returns-in-Ok c = in_segment (value_of c.in-Ok.segment) c.in-Ok.ensures.sound c.name_in.ensures

pub returns-in-Err : goal.returns-in-Err
returns-in-Err c = no_segment c.in-Err.field-0 c.in-Err.ensures.told refl
