use Rattle.std.proofs.Common.{◌-◌, take, refl, sym, ◌∙◌}
use Rattle.icmp6_wire.specs.MldRecord.{record_len_in}
use Rattle.icmp6_wire.proofs.MldIterators.{none_ahead, record_ahead, refusal_ahead, one_less}
use Rattle.wirebase.proofs.Answers.{first_off}
use Rattle.icmp6_wire.proofs.mld.iterators.RecordsIterator.next.Goals as goal

pub returns-then-self-eq0-clause-steps : goal.returns-then-self-eq0-clause-steps
returns-then-self-eq0-clause-steps c =
    let it = c.self.inside in
    let ended = sym c.self.view_is ∙ none_ahead it.left it.rest.now c.if-self-eq0.true in
    (ended, ended)

pub returns-in-Ok-clause-steps : goal.returns-in-Ok-clause-steps
returns-in-Ok-clause-steps c =
    let it = c.self.inside in
    let parts = c.in-Ok.ensures in (
      take (record_len_in it.rest.now) it.rest.now,
      parts.record,
      sym c.self.view_is
          ∙ record_ahead it.left (it.left - 1) it.rest.now c.in-Ok.behind.now (one_less it.left c.if-self-eq0.false)
          parts.whole parts.behind,
    )

pub returns-in-Ok-clause-goes : goal.returns-in-Ok-clause-goes
returns-in-Ok-clause-goes c =
    let steps = returns-in-Ok-clause-steps c in
    first_off _ _ _ _ steps.2

pub returns-in-Err-clause-steps : goal.returns-in-Err-clause-steps
returns-in-Err-clause-steps c =
    let it = c.self.inside in
    sym c.self.view_is
    ∙ refusal_ahead it.left 0 it.rest.now c.in-Err.refusal c.if-self-eq0.false c.in-Err.ensures.refuses refl

pub returns-in-Err-clause-goes : goal.returns-in-Err-clause-goes
returns-in-Err-clause-goes c = first_off _ _ _ _ (returns-in-Err-clause-steps c)
