use Rattle.opt_wire.proofs.Words.{◌∙◌, ap, arith, eqb-false, eqb-true, length, none, refl, sym}
use Rattle.opt_wire.proofs.Ipv6HbhBehind.{next_place, read-end, read-full, read-broken}
use Rattle.opt_wire.proofs.ipv6hbh.refusal.first_bad.Goals as goal

pub loop-index-init : goal.loop-index-init
loop-index-init c = none

pub loop-index-preserved : goal.loop-index-preserved
loop-index-preserved c = next_place _ _ _ _ c.loop-index.invariant c.in-Ok.ensures.found

pub returns-then-is_empty-clause-exact : goal.returns-then-is_empty-clause-exact
returns-then-is_empty-clause-exact c = (
  λ ended.
      read-end 8 _ _ _ c.loop-index.invariant c.requires.some
      (eqb-true _ 0 (sym c.is_empty.ensures ∙ c.if-is_empty.true))
      (omega (arith, c.loop-index-test.true)),
  λ read. refl,
)

pub returns-in-Err-clause-exact : goal.returns-in-Err-clause-exact
returns-in-Err-clause-exact c = (
  λ told. cc,
  λ read. absurd (
      read-broken 8 _ _ _ c.loop-index.invariant (omega (arith, c.loop-index-test.true))
      (λ e. eqb-false _ 0 (sym c.is_empty.ensures ∙ c.if-is_empty.false) (ap length e))
      (c.in-Err.ensures.refuses refl) read
      ),
)

pub returns-clause-exact : goal.returns-clause-exact
returns-clause-exact c = (
  λ ended. read-full 8 _ _ _ c.loop-index.invariant c.requires.some (omega (arith, c.loop-index-test.false)),
  λ read. refl,
)
