-- There is none, or what the first record tells.
use Rattle.std.proofs.Common.{◌∙◌, arith, sym}
use Rattle.message_brief.specs.Dns.{has, has_none, has_unread}
use Rattle.message_brief.proofs.dns.found.answer_in.Goals as goal

pub returns-then-answer_record_count-eq0 : goal.returns-then-answer_record_count-eq0
returns-then-answer_record_count-eq0 c =
    has_none (sym c.answer_record_count.ensures ∙ c.if-answer_record_count-eq0.true)

pub returns-in-Some : goal.returns-in-Some
returns-in-Some c = has _ _ (λ zero. omega arith) c.in-Some.ensures c.told_by.ensures

pub returns-in-None : goal.returns-in-None
returns-in-None c = has_unread (λ zero. omega arith) c.in-None.ensures
