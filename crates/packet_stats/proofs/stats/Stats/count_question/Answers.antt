-- The name is read, and counted in lower case.
use Rattle.dns_wire.specs.DnsPacket.{view_octets}
use Rattle.record_wire.specs.Name.{labels_of}
use Rattle.record_wire.specs.Record.{question_of}
use Rattle.packet_stats.specs.Stats.{state_of}
use Rattle.packet_stats.proofs.DnsSaid.{question_broken, question_counted}
use Rattle.packet_stats.proofs.stats.Stats.count_question.Goals as goal

pub returns-in-Ok-clause-counts : goal.returns-in-Ok-clause-counts
returns-in-Ok-clause-counts c =
    question_counted c.mention.result (state_of c.args.self.now) (state_of c.mention.new.self)
    (view_octets c.args.packet.now) (question_of c.args.question.now) (labels_of c.in-Ok.name)
    (labels_of c.lowered.result) c.in-Ok.ensures.sound c.lowered.ensures c.mention.ensures.counts

pub returns-in-Ok-clause-fault : goal.returns-in-Ok-clause-fault
returns-in-Ok-clause-fault c =
    question_broken c.mention.result (state_of c.args.self.now) (state_of c.mention.new.self)
    (view_octets c.args.packet.now) (question_of c.args.question.now) (labels_of c.in-Ok.name)
    c.in-Ok.ensures.sound c.mention.ensures.fault
