use Rattle.std.proofs.Common.{length, sym, ◌∙◌, eqb-true, inl, inr}
use Rattle.wirebase.proofs.Answers.{answer-progress}
use Rattle.header_wire.specs.Options.{value_of}
use Rattle.header_wire.proofs.OptionTiles.{next-end, next-option, next-refusal}
use Rattle.header_wire.proofs.options.OptionsIterator.next.Goals as goal

pub returns-then-is_empty-clause-steps : goal.returns-then-is_empty-clause-steps
returns-then-is_empty-clause-steps c =
    let rest = c.self.inside.rest.now in
    let ended = sym c.self.view_is ∙ next-end rest (elim c.then-is_empty.branch [
      | goal.then-is_empty-via-then-is_empty w ↦
          inl (eqb-true (length rest) 0 (sym c.is_empty.ensures ∙ w.if-is_empty.true))
      | goal.then-is_empty-via-else-is_empty+then-self-eq-END_OF_LIST w ↦ inr w.if-self-eq-END_OF_LIST.true
    ]) in
    (ended, ended)

pub returns-in-Ok-clause-steps : goal.returns-in-Ok-clause-steps
returns-in-Ok-clause-steps c =
    sym c.self.view_is
    ∙ next-option c.self.inside.rest.now c.split_at.result.0.now c.split_at.result.1.now c.in-Ok.len _
    c.read_option.ensures c.split_at.ensures.front c.split_at.ensures.back

pub returns-in-Ok-clause-goes : goal.returns-in-Ok-clause-goes
returns-in-Ok-clause-goes c = answer-progress value_of _ _ _ (returns-in-Ok-clause-steps c)

pub returns-in-Err-clause-steps : goal.returns-in-Err-clause-steps
returns-in-Err-clause-steps c =
    sym c.self.view_is ∙ next-refusal c.self.inside.rest.now c.in-Err.refusal c.in-Err.ensures.told

pub returns-in-Err-clause-goes : goal.returns-in-Err-clause-goes
returns-in-Err-clause-goes c = answer-progress value_of _ _ _ (returns-in-Err-clause-steps c)
