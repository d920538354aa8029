use Rattle.std.proofs.Common.{[], ◌<◌, ◌∙◌, arith, inl, length, refl, sym}
use Rattle.std.proofs.lemmas.Bool.{eqb-false, eqb-true}
use Rattle.neighbor_wire.proofs.OptionTiles.{next-end, next-block, next-refusal, gives}
use Rattle.wirebase.proofs.Answers.{first_off}
use Rattle.neighbor_wire.proofs.options.NeighborOptionsIterator.next.Goals as goal

pub returns-then-is_empty-clause-steps : goal.returns-then-is_empty-clause-steps
returns-then-is_empty-clause-steps c =
    let rest = c.self.inside.rest.now in
    let ended = sym c.self.view_is
    ∙ next-end rest (eqb-true (length rest) 0 (sym c.is_empty.ensures ∙ c.if-is_empty.true)) in
    (ended, ended)

pub returns-in-Ok-clause-steps : goal.returns-in-Ok-clause-steps
returns-in-Ok-clause-steps c =
    let parts = c.in-Ok.ensures in
    let first = sym c.self.view_is
    ∙ next-block c.self.inside.rest.now c.in-Ok.block.now c.in-Ok.behind.now parts.begins parts.block parts.behind in
    gives c.parse.result c.in-Ok.block.now _ _ c.parse.ensures.sound c.parse.ensures.told first

pub returns-in-Ok-clause-goes : goal.returns-in-Ok-clause-goes
returns-in-Ok-clause-goes c =
    let parts = c.in-Ok.ensures in
    first_off _ _ _ _
    (sym c.self.view_is
    ∙ next-block c.self.inside.rest.now c.in-Ok.block.now c.in-Ok.behind.now parts.begins parts.block parts.behind)

pub returns-in-Err-clause-steps : goal.returns-in-Err-clause-steps
returns-in-Err-clause-steps c =
    let rest = c.self.inside.rest.now in
    let some : 0 < length rest =
    omega (arith, eqb-false (length rest) 0 (sym c.is_empty.ensures ∙ c.if-is_empty.false)) in
    inl (sym c.self.view_is ∙ next-refusal rest [] c.in-Err.refusal some c.in-Err.ensures.told refl)

pub returns-in-Err-clause-goes : goal.returns-in-Err-clause-goes
returns-in-Err-clause-goes c =
    let rest = c.self.inside.rest.now in
    let some : 0 < length rest =
    omega (arith, eqb-false (length rest) 0 (sym c.is_empty.ensures ∙ c.if-is_empty.false)) in
    first_off _ _ _ _ (sym c.self.view_is ∙ next-refusal rest [] c.in-Err.refusal some c.in-Err.ensures.told refl)
