-- Each turn passes over an option, and counts it where it is of the type.
use Rattle.std.proofs.Common.{◌∙◌, ap, arith, sym}
use Rattle.std.specs.Prelude.{count_by}
use Rattle.message_brief.specs.Neighbors.{is_of, options_in}
use Rattle.message_brief.proofs.PartsInTurn.{count-behind, count-here, next_option, no_options}
use Rattle.message_brief.proofs.neighbors.count_options.Goals as goal

pub loop-left-preserved-then-is_of : goal.loop-left-preserved-then-is_of
loop-left-preserved-then-is_of c =
    let p = is_of c.args.type_ in
    let part = c.split_at.result.0.now in
    let behind = c.split_at.result.1.now in
    let option = rw c.len_of.ensures.value at c.split_at.ensures.front in
    let others = rw c.len_of.ensures.value at c.split_at.ensures.back in
    let next = next_option c.loop-left.left.now part behind (omega arith) option others in
    let all = ap (count_by p) next in
    let one = count-here p part (options_in behind) (sym c.is_of.ensures.value ∙ c.if-is_of.true) in
    record {
      counts = omega (arith, all, one, c.loop-left.invariant.counts);
      few = omega (arith, c.loop-left.invariant.few);
    }

pub loop-left-preserved : goal.loop-left-preserved
loop-left-preserved c =
    let p = is_of c.args.type_ in
    let part = c.split_at.result.0.now in
    let behind = c.split_at.result.1.now in
    let option = rw c.len_of.ensures.value at c.split_at.ensures.front in
    let others = rw c.len_of.ensures.value at c.split_at.ensures.back in
    let next = next_option c.loop-left.left.now part behind (omega arith) option others in
    let all = ap (count_by p) next in
    let none = count-behind p part (options_in behind) (sym c.is_of.ensures.value ∙ c.if-is_of.false) in
    record {
      counts = omega (arith, all, none, c.loop-left.invariant.counts);
      few = omega (arith, c.loop-left.invariant.few);
    }

pub returns : goal.returns
returns c =
    let left = no_options c.loop-left.left.now (sym c.is_empty.ensures ∙ c.loop-left-test.false) in
    let none = ap (count_by (is_of c.args.type_)) left in
    omega (arith, none, c.loop-left.invariant.counts)
