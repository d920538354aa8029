use Rattle.std.proofs.Common.{sym, ◌∙◌}
use Rattle.neighbor_wire.specs.Names.{Stops}
use Rattle.neighbor_wire.proofs.NamesAhead.{next-end, next-name, next-refusal}
use Rattle.wirebase.proofs.Answers.{first_off}
use Rattle.neighbor_wire.proofs.names.NamesIteratorIterator.next.Goals as goal

pub returns-then-stops-clause-steps : goal.returns-then-stops-clause-steps
returns-then-stops-clause-steps c =
    let ended = sym c.self.view_is ∙ next-end c.self.inside.rest.now (c.stops.ensures.0 c.if-stops.true) in
    (ended, ended)

pub returns-in-Ok-clause-steps : goal.returns-in-Ok-clause-steps
returns-in-Ok-clause-steps c =
    let bytes = c.self.inside.rest.now in
    let none : Stops bytes → ⊥ = λ s. let yes = c.stops.ensures.1 s in let no = c.if-stops.false in cc in
    sym c.self.view_is
    ∙ next-name bytes c.split_at.result.0.now c.split_at.result.1.now c.in-Ok.len none (sym c.in-Ok.ensures.value)
    c.split_at.ensures.front c.split_at.ensures.back

pub returns-in-Ok-clause-goes : goal.returns-in-Ok-clause-goes
returns-in-Ok-clause-goes c = first_off _ _ _ _ (returns-in-Ok-clause-steps c)

pub returns-in-Err-clause-steps : goal.returns-in-Err-clause-steps
returns-in-Err-clause-steps c =
    let bytes = c.self.inside.rest.now in
    let none : Stops bytes → ⊥ = λ s. let yes = c.stops.ensures.1 s in let no = c.if-stops.false in cc in
    sym c.self.view_is ∙ next-refusal bytes c.in-Err.refusal none (sym c.in-Err.ensures.value)

pub returns-in-Err-clause-goes : goal.returns-in-Err-clause-goes
returns-in-Err-clause-goes c = first_off _ _ _ _ (returns-in-Err-clause-steps c)
