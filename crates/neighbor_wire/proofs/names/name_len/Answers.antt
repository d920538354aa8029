use Rattle.std.proofs.Common.{◌≡◌, ◌<◌, ◌-◌, ℕ, Result, length, sym, ap, ◌∙◌, arith}
use Rattle.std.specs.Prelude.{slice_index}
use Rattle.std.proofs.lemmas.Bool.{eqb-false, eqb-true}
use Rattle.neighbor_wire.specs.declared.names.NameRefusal.{NameRefusal}
use Rattle.neighbor_wire.specs.Names.{IsLabelLen}
use Rattle.neighbor_wire.specs.private.Names.{more}
use Rattle.neighbor_wire.proofs.NamesAhead.{front_root, front_long, front_short, walk-empty, rest_behind, step}
use Rattle.neighbor_wire.proofs.names.name_len.Goals as goal

pub returns-then-len-eq0-clause-value : goal.returns-then-len-eq0-clause-value
returns-then-len-eq0-clause-value c =
    let rest = c.loop-rest.rest.now in
    let some : 0 < length rest =
    omega (arith, eqb-false (length rest) 0 (sym c.is_empty.ensures ∙ c.loop-rest-test.true)) in
    sym (c.loop-rest.invariant.1
    ∙ ap (λ (r : Result ℕ NameRefusal). more (length c.args.octets.now - length rest) r)
    (front_root rest some c.if-len-eq0.true))

pub returns-then-len-gt-MOST_LABEL-clause-value : goal.returns-then-len-gt-MOST_LABEL-clause-value
returns-then-len-gt-MOST_LABEL-clause-value c =
    let rest = c.loop-rest.rest.now in
    let some : 0 < length rest =
    omega (arith, eqb-false (length rest) 0 (sym c.is_empty.ensures ∙ c.loop-rest-test.true)) in
    sym (c.loop-rest.invariant.1
    ∙ ap (λ (r : Result ℕ NameRefusal). more (length c.args.octets.now - length rest) r)
    (front_long rest some c.if-len-gt-MOST_LABEL.true))

pub returns-then-rest-len-clause-value : goal.returns-then-rest-len-clause-value
returns-then-rest-len-clause-value c =
    let rest = c.loop-rest.rest.now in
    let some : 0 < length rest =
    omega (arith, eqb-false (length rest) 0 (sym c.is_empty.ensures ∙ c.loop-rest-test.true)) in
    let is : IsLabelLen (slice_index rest 0) =
    (omega (arith, c.if-len-eq0.false), omega (arith, c.if-len-gt-MOST_LABEL.false)) in
    sym (c.loop-rest.invariant.1
    ∙ ap (λ (r : Result ℕ NameRefusal). more (length c.args.octets.now - length rest) r)
    (front_short rest some is c.if-rest-len.true))

pub loop-rest-preserved : goal.loop-rest-preserved
loop-rest-preserved c =
    let rest = c.loop-rest.rest.now in
    let is : IsLabelLen (slice_index rest 0) =
    (omega (arith, c.if-len-eq0.false), omega (arith, c.if-len-gt-MOST_LABEL.false)) in
    step c.args.octets.now rest _ is c.if-rest-len.false (rest_behind rest _) c.loop-rest.invariant

pub returns-clause-value : goal.returns-clause-value
returns-clause-value c =
    let rest = c.loop-rest.rest.now in
    let none : length rest ≡ 0 = eqb-true (length rest) 0 (sym c.is_empty.ensures ∙ c.loop-rest-test.false) in
    sym (c.loop-rest.invariant.1
    ∙ ap (λ (r : Result ℕ NameRefusal). more (length c.args.octets.now - length rest) r) (walk-empty rest none))
