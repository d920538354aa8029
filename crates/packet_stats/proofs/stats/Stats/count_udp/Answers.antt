-- A datagram is read as far as it is there, or refused.
use Rattle.std.proofs.Common.{refl}
use Rattle.frame_wire.specs.UdpCaptured.{captured_of}
use Rattle.packet_stats.specs.Message.{unopened}
use Rattle.packet_stats.specs.Stats.{state_of}
use Rattle.packet_stats.proofs.Said.{datagram_broken, datagram_counted}
use Rattle.packet_stats.proofs.stats.Stats.count_udp.Goals as goal

pub returns-in-Ok-clause-counts : goal.returns-in-Ok-clause-counts
returns-in-Ok-clause-counts c =
    datagram_counted c.count_service.result c.args.service c.args.between.now c.args.after c.args.octets.now
    (captured_of c.in-Ok.datagram) (state_of c.args.self.now) (state_of c.count_service.new.self) c.source.result
    c.source.ensures c.in-Ok.ensures.sound c.count_service.ensures.counts

pub returns-in-Ok-clause-fault : goal.returns-in-Ok-clause-fault
returns-in-Ok-clause-fault c =
    datagram_broken c.count_service.result c.args.service c.args.between.now c.args.after c.args.octets.now
    (captured_of c.in-Ok.datagram) (state_of c.args.self.now) (state_of c.count_service.new.self) c.source.result
    c.source.ensures c.in-Ok.ensures.sound c.count_service.ensures.fault

pub returns-in-Err-clause-counts : goal.returns-in-Err-clause-counts
returns-in-Err-clause-counts c = (_, unopened c.in-Err.field-0 c.in-Err.ensures.refuses refl, refl)
