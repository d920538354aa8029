use Rattle.dns_wire.proofs.DnsQuestionFormat.{question_same_text}
use Rattle.dns_wire.proofs.dns.question.Question.same_text.Goals as goal

pub returns : goal.returns
returns c = question_same_text _ _
