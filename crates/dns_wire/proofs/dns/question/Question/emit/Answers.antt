use Rattle.dns_wire.specs.DnsQuestion.{value_of}
use Rattle.dns_wire.proofs.DnsQuestionFormat.{question_emits}
use Rattle.dns_wire.proofs.dns.question.Question.emit.Goals as goal

pub returns : goal.returns
returns c = question_emits (value_of c.args.self.now) c.args.packet.now _ c.requires c.write.ensures
