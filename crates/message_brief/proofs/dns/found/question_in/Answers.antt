-- There is none, or the first, or none begins.
use Rattle.std.proofs.Common.{◌∙◌, arith, sym}
use Rattle.message_brief.specs.Dns.{asks_nothing, asks_of, asks_unread}
use Rattle.message_brief.proofs.NextEntries.{no_question, none_begins, none_left}
use Rattle.record_wire.specs.Entries.{question}
use Rattle.message_brief.proofs.dns.found.question_in.Goals as goal

pub returns-then-question_count-eq0 : goal.returns-then-question_count-eq0
returns-then-question_count-eq0 c = asks_nothing (sym c.question_count.ensures ∙ c.if-question_count-eq0.true)

pub returns-in-Some-Ok-Question : goal.returns-in-Some-Ok-Question
returns-in-Some-Ok-Question c =
    let it = c.in-Some-Ok-Question in
    let next = rw (it.field-0-is, it.field-0-0-is, c.new-entries.ensures) at it.ensures.steps in
    asks_of _ _ _ next c.named.ensures

pub returns-in-Some-Ok-Record : goal.returns-in-Some-Ok-Record
returns-in-Some-Ok-Record c =
    let it = c.in-Some-Ok-Record in
    let next = rw (it.field-0-is, it.field-0-0-is, c.new-entries.ensures) at it.ensures.steps in
    asks_unread (λ zero. omega arith) (no_question _ _ _ _ next)

pub returns-in-Some-Err : goal.returns-in-Some-Err
returns-in-Some-Err c =
    let broken = rw (c.in-Some-Err.field-0-is, c.new-entries.ensures) at c.in-Some-Err.ensures.steps in
    asks_unread (λ zero. omega arith) (λ q after next. none_begins _ _ broken (question q) after next)

pub returns-in-None : goal.returns-in-None
returns-in-None c =
    let left = rw c.new-entries.ensures at c.in-None.ensures.steps in
    asks_unread (λ zero. omega arith) (λ q after next. none_left _ left.0 (question q) after next)
