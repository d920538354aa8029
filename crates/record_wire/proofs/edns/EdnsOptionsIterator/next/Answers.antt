use Rattle.record_wire.proofs.Words.{◌≤◌, ◌∷◌, ◌∙◌, Answer, Err, List, answers_in, ap, arith, eqb-false, eqb-true}
use Rattle.record_wire.proofs.Words.{length, nil_from_length, option_of, sym}
use Rattle.wirebase.proofs.Answers.{answer-progress}
use Rattle.record_wire.proofs.EdnsTiles.{answers_option, answers_broken, answers_nothing}
use Rattle.record_wire.proofs.edns.EdnsOptionsIterator.next.Goals as goal

pub returns-then-is_empty-clause-steps : goal.returns-then-is_empty-clause-steps
returns-then-is_empty-clause-steps c =
    let left = c.self.inside.left.now in
    let ended =
    sym c.self.view_is
    ∙ (ap answers_in (nil_from_length left (eqb-true (length left) 0 (sym c.is_empty.ensures ∙ c.if-is_empty.true)))
    ∙ answers_nothing) in
    (ended, ended)

pub returns-in-Ok-clause-steps : goal.returns-in-Ok-clause-steps
returns-in-Ok-clause-steps c =
    sym c.self.view_is ∙ answers_option c.self.inside.left.now c.in-Ok.rest.now _ c.in-Ok.ensures.sound

pub returns-in-Ok-clause-goes : goal.returns-in-Ok-clause-goes
returns-in-Ok-clause-goes c = answer-progress option_of _ _ _ (returns-in-Ok-clause-steps c)

pub why_no_option-refusal-requires : goal.why_no_option-refusal-requires
why_no_option-refusal-requires c (option, rest, is) = absurd (c.in-Err.ensures.complete option rest is)

pub returns-in-Err-clause-steps : goal.returns-in-Err-clause-steps
returns-in-Err-clause-steps c =
    let left = c.self.inside.left.now in
    let why = c.why_no_option-refusal.result in
    let some : 1 ≤ length left =
    omega (arith, eqb-false (length left) 0 (sym c.is_empty.ensures ∙ c.if-is_empty.false)) in
    sym c.self.view_is
    ∙ (answers_broken left why some (λ (option, rest, is). absurd (c.in-Err.ensures.complete option rest is))
    c.why_no_option-refusal.ensures
    ∙ ap (λ (more : List Answer). Err why ∷ more) (sym answers_nothing))

pub returns-in-Err-clause-goes : goal.returns-in-Err-clause-goes
returns-in-Err-clause-goes c = answer-progress option_of _ _ _ (returns-in-Err-clause-steps c)
