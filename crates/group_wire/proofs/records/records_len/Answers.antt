use Rattle.std.proofs.Common.{rules, arith, refl}
use Rattle.group_wire.specs.Family.{width}
use Rattle.group_wire.proofs.Families.{rest_behind}
use Rattle.group_wire.proofs.RecordsAhead.{len-none, len-cut, len_step}
use Rattle.group_wire.proofs.records.records_len.Goals as goal

pub returns-in_err-len-clause-cut : goal.returns-in_err-len-clause-cut
returns-in_err-len-clause-cut g c =
    let less = len-cut (width g.A.Address.family) c.loop-left.left c.loop-left.rest.now
    (λ none. omega (arith, none, c.loop-left-test.true)) (search (c.in_err-len.ensures, rules)) in (
      λ none. omega (arith, less, c.loop-left.invariant.0, c.loop-left.invariant.1),
      λ cut. search rules,
    )

pub loop-left-preserved : goal.loop-left-preserved
loop-left-preserved g c =
    len_step (width g.A.Address.family) c.loop-left.left _ c.in_ok-len.len c.args.octets.now c.loop-left.rest.now _
    (λ none. omega (arith, none, c.loop-left-test.true)) c.in_ok-len.ensures.value c.in_ok-len.ensures.whole
    (rest_behind c.loop-left.rest.now _ _ refl) c.loop-left.invariant

pub returns-clause-value : goal.returns-clause-value
returns-clause-value g c =
    let none =
    len-none (width g.A.Address.family) c.loop-left.left c.loop-left.rest.now (omega (arith, c.loop-left-test.false)) in
    omega (arith, c.loop-left.invariant.1, none)

pub returns-clause-cut : goal.returns-clause-cut
returns-clause-cut g c =
    (λ never. cc, λ cut. absurd (omega (arith, cut, returns-clause-value g c, c.loop-left.invariant.0)))
