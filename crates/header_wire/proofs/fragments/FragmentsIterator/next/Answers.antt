use Rattle.std.proofs.Common.{◌≡◌, ℕ, List, length, Some, rules, arith, ap, sym, ◌∙◌}
use Rattle.wirebase.proofs.Answers.{first_off}
use Rattle.header_wire.specs.private.Fragments.{parts_ahead}
use Rattle.header_wire.proofs.PartsAhead.{last_ahead, part_ahead}
use Rattle.header_wire.proofs.fragments.FragmentsIterator.next.Goals as goal

pub returns-then-rest-self-clause-steps : goal.returns-then-rest-self-clause-steps
returns-then-rest-self-clause-steps c =
    let it = c.self.inside in
    let rest : List ℕ = c.in_ok-rest.rest.now in
    let some : it.rest ≡ Some c.in_ok-rest.rest = search rules in
    sym c.self.view_is ∙ ap (λ r. parts_ahead it.room it.frag_offset r) some
    ∙ last_ahead (length rest) it.room it.frag_offset rest (omega (arith, c.if-rest-self.true))

pub returns-then-rest-self-clause-goes : goal.returns-then-rest-self-clause-goes
returns-then-rest-self-clause-goes c = first_off _ _ _ _ (returns-then-rest-self-clause-steps c)

pub returns-clause-steps : goal.returns-clause-steps
returns-clause-steps c =
    let it = c.self.inside in
    let rest : List ℕ = c.in_ok-rest.rest.now in
    let some : it.rest ≡ Some c.in_ok-rest.rest = search rules in
    sym c.self.view_is ∙ ap (λ r. parts_ahead it.room it.frag_offset r) some
    ∙ part_ahead it.room it.frag_offset rest c.split_at.result.0.now c.split_at.result.1.now c.self.invariant.0
    (omega (arith, c.if-rest-self.false)) c.split_at.ensures.front c.split_at.ensures.back

pub returns-clause-goes : goal.returns-clause-goes
returns-clause-goes c = first_off _ _ _ _ (returns-clause-steps c)
