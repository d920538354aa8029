-- Each turn passes over a question.
use Rattle.message_brief.specs.Dns.{is_behind, is_missing, is_next}
use Rattle.message_brief.proofs.NextEntries.{none_begins, none_left}
use Rattle.message_brief.proofs.dns.found.first_record.Goals as goal

pub returns-in-Some-Ok-Record : goal.returns-in-Some-Ok-Record
returns-in-Some-Ok-Record c =
    let it = c.in-Some-Ok-Record in
    let next = rw (it.field-0-is, it.field-0-0-is) at it.ensures.steps in
    c.loop-record.invariant _ (is_next _ _ _ _ next)

pub loop-record-preserved : goal.loop-record-preserved
loop-record-preserved c =
    let it = c.in-Some-Ok-Question in
    let next = rw (it.field-0-is, it.field-0-0-is) at it.ensures.steps in
    λ found first. c.loop-record.invariant found (is_behind _ _ _ _ next first)

pub returns-in-Some-Err : goal.returns-in-Some-Err
returns-in-Some-Err c =
    let broken = rw c.in-Some-Err.field-0-is at c.in-Some-Err.ensures.steps in
    c.loop-record.invariant _ (is_missing _ (none_begins _ _ broken))

pub returns-in-None : goal.returns-in-None
returns-in-None c = c.loop-record.invariant _ (is_missing _ (none_left _ c.in-None.ensures.steps.0))
