use Rattle.std.proofs.Common.{ℕ, ◌-◌, List, ◌∷◌, refl, sym, ap, ◌∙◌}
use Rattle.group_wire.specs.Family.{width}
use Rattle.group_wire.specs.Records.{records_ahead}
use Rattle.group_wire.proofs.RecordsAhead.{none_ahead, record_ahead, cut_ahead, front_whole}
use Rattle.wirebase.proofs.Answers.{first_off}
use Rattle.group_wire.proofs.records.RecordsIteratorIterator.next.Goals as goal

pub returns-then-self-eq0-clause-steps : goal.returns-then-self-eq0-clause-steps
returns-then-self-eq0-clause-steps g c =
    let it = c.self.inside in
    let ended = sym c.self.view_is ∙ none_ahead (width g.A.Address.family) it.left it.rest.now c.if-self-eq0.true in
    (ended, ended)

pub read_record-requires : goal.read_record-requires
read_record-requires g c =
    front_whole (width g.A.Address.family) c.in-Some.len c.self.inside.rest.now c.split_at.result.0.now
    c.in-Some.ensures.value c.in-Some.ensures.whole c.split_at.ensures.front

pub returns-in-Some-clause-steps : goal.returns-in-Some-clause-steps
returns-in-Some-clause-steps g c =
    let w = width g.A.Address.family in
    let it = c.self.inside in
    let behind = c.split_at.result.1.now in (
      c.split_at.result.0.now,
      c.read_record.ensures,
      sym c.self.view_is
          ∙ record_ahead w it.left it.rest.now behind c.in-Some.len c.if-self-eq0.false c.in-Some.ensures.value
          c.in-Some.ensures.whole c.split_at.ensures.back
          ∙ ap (λ (l : List ℕ). l ∷ records_ahead w (it.left - 1) behind) (sym c.split_at.ensures.front),
    )

pub returns-in-Some-clause-goes : goal.returns-in-Some-clause-goes
returns-in-Some-clause-goes g c =
    let steps = returns-in-Some-clause-steps g c in
    first_off _ _ _ _ steps.2

pub returns-in-None-clause-steps : goal.returns-in-None-clause-steps
returns-in-None-clause-steps g c =
    let w = width g.A.Address.family in
    let it = c.self.inside in (
      sym c.self.view_is ∙ cut_ahead w it.left it.rest.now (c.in-None.ensures.cut.0 refl),
      none_ahead w 0 it.rest.now refl,
    )
