use Rattle.std.proofs.Common.{◌≡◌, ℕ, ◌+◌, ◌*◌, take, drop, arith, ap, sym, ◌∙◌}
use Rattle.std.proofs.Common.{inl, inr}
use Rattle.header_wire.specs.Routers.{entry_len}
use Rattle.header_wire.proofs.RoutersAhead.{none_ahead, entry_ahead}
use Rattle.wirebase.proofs.Answers.{first_off}
use Rattle.header_wire.proofs.icmpv4.routers.RoutersIteratorIterator.next.Goals as goal

pub returns-then-self-eq0-clause-steps : goal.returns-then-self-eq0-clause-steps
returns-then-self-eq0-clause-steps c =
    let it = c.self.inside in
    let ended = sym c.self.view_is
    ∙ none_ahead (entry_len (2 + it.spare_words)) it.left it.rest.now (elim c.then-self-eq0.branch [
      | goal.then-self-eq0-via-then-self-eq0 w ↦ inl w.if-self-eq0.true
      | goal.then-self-eq0-via-else-self-eq0+then-self-width w ↦ inr (omega (arith, w.if-self-width.true))
    ]) in
    (ended, ended)

pub read_router-requires : goal.read_router-requires
read_router-requires c = omega (arith, c.split_at.ensures.front_len)

pub returns-clause-steps : goal.returns-clause-steps
returns-clause-steps c =
    let it = c.self.inside in
    let entry = c.split_at.result.0.now in
    let w : ℕ = entry_len (2 + it.spare_words) in
    let wide : 8 + 4 * it.spare_words ≡ w = omega arith in
    let front = c.split_at.ensures.front ∙ ap (λ (n : ℕ). take n it.rest.now) wide in
    let back = c.split_at.ensures.back ∙ ap (λ (n : ℕ). drop n it.rest.now) wide in (
      entry,
      c.read_router.ensures,
      sym c.self.view_is
          ∙ entry_ahead w it.left it.rest.now entry c.split_at.result.1.now c.if-self-eq0.false
          (omega (arith, c.if-self-width.false)) front back,
    )

pub returns-clause-goes : goal.returns-clause-goes
returns-clause-goes c =
    let steps = returns-clause-steps c in
    first_off _ _ _ _ steps.2
