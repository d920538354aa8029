use Rattle.dns_wire.proofs.DnsQuestionFormat.{question_one, question_rewrites}
use Rattle.dns_wire.proofs.DnsRefused.{question_refused}
use Rattle.dns_wire.proofs.dns.question.Question.parse.Goals as goal

pub returns-in-Ok-clause-complete : goal.returns-in-Ok-clause-complete
returns-in-Ok-clause-complete c value rest is =
    question_one c.args.buffer.now _ value _ rest c.in-Ok.ensures.sound is

pub returns-in-Ok-clause-rewrites : goal.returns-in-Ok-clause-rewrites
returns-in-Ok-clause-rewrites c small =
    question_rewrites c.args.buffer.now _ _ c.are_bytes.ensures small c.in-Ok.ensures.sound

pub returns-in-Err-clause-complete : goal.returns-in-Err-clause-complete
returns-in-Err-clause-complete c value rest is =
    absurd (question_refused c.args.buffer.now _ c.in-Err.ensures.told (value, rest, is))
