use Rattle.dns_wire.proofs.Words.{sym}
use Rattle.dns_wire.specs.DnsQuestion.{value_of}
use Rattle.dns_wire.proofs.DnsQuestionFormat.{length-question_text}
use Rattle.dns_wire.proofs.dns.question.Question.buffer_len.Goals as goal

pub returns-clause-exact : goal.returns-clause-exact
returns-clause-exact c = sym (length-question_text (value_of c.args.self.now))
