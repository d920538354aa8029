use Rattle.dns_wire.proofs.DnsRefused.{question_refused}
use Rattle.dns_wire.proofs.dns.question.Question.refusal.Goals as goal

pub returns-in-Err-clause-exact : goal.returns-in-Err-clause-exact
returns-in-Err-clause-exact c =
    (λ e. cc, λ begins. absurd (question_refused c.args.buffer.now _ c.in-Err.ensures.told begins))
