use Rattle.std.proofs.Common.{sym, subst}
use Rattle.control_wire.specs.Mld.{values_of}
use Rattle.examples.specs.Listener.{IsDue}
use Rattle.examples.proofs.listener.answer.Goals as goal

pub returns-in-None-clause-answers : goal.returns-in-None-clause-answers
returns-in-None-clause-answers c = λ code group sources due asks is room.
    absurd (c.in-None.ensures.complete code group sources asks)

pub returns-in-None-answer_query-clause-answers : goal.returns-in-None-answer_query-clause-answers
returns-in-None-answer_query-clause-answers c = λ code group sources due asks is room.
    let listening = values_of c.args.listening.now in
    let query = c.in-Some.query in
    let same = c.in-Some.ensures.complete code group sources asks in
    c.in-None-answer_query.ensures.answers due
    (subst (λ g. IsDue listening g query.sources.now due) (sym same.1)
    (subst (λ s. IsDue listening group s due) (sym same.2) is)) room
