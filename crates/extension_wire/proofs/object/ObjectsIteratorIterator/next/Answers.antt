use Rattle.std.proofs.Common.{◌≤◌, ◌∙◌, length, arith, ap, sym}
use Rattle.std.proofs.lemmas.Bool.{eqb-true, eqb-false}
use Rattle.std.proofs.lemmas.List.{nil_from_length}
use Rattle.wirebase.proofs.Answers.{answer-progress}
use Rattle.extension_wire.specs.Object.{value_of}
use Rattle.extension_wire.specs.private.Objects.{answers_in}
use Rattle.extension_wire.proofs.ObjectsAhead.{answers_none, answers_object, answers_refused}
use Rattle.extension_wire.proofs.object.ObjectsIteratorIterator.next.Goals as goal

pub returns-then-is_empty-clause-steps : goal.returns-then-is_empty-clause-steps
returns-then-is_empty-clause-steps c =
    let left = c.self.inside.left.now in
    let ended =
    sym c.self.view_is
    ∙ (ap answers_in (nil_from_length left (eqb-true (length left) 0 (sym c.is_empty.ensures ∙ c.if-is_empty.true)))
    ∙ answers_none) in
    (ended, ended)

pub returns-in-Ok-clause-steps : goal.returns-in-Ok-clause-steps
returns-in-Ok-clause-steps c =
    sym c.self.view_is ∙ answers_object c.self.inside.left.now _ c.in-Ok.behind.now c.in-Ok.ensures.sound

pub returns-in-Ok-clause-goes : goal.returns-in-Ok-clause-goes
returns-in-Ok-clause-goes c = answer-progress value_of _ _ _ (returns-in-Ok-clause-steps c)

pub returns-in-Err-clause-steps : goal.returns-in-Err-clause-steps
returns-in-Err-clause-steps c =
    let left = c.self.inside.left.now in
    let some : 1 ≤ length left =
    omega (arith, eqb-false (length left) 0 (sym c.is_empty.ensures ∙ c.if-is_empty.false)) in
    sym c.self.view_is ∙ answers_refused left c.in-Err.refusal some c.in-Err.ensures.told

pub returns-in-Err-clause-goes : goal.returns-in-Err-clause-goes
returns-in-Err-clause-goes c = answer-progress value_of _ _ _ (returns-in-Err-clause-steps c)
