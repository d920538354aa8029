-- Each turn passes over an option.
use Rattle.std.proofs.Common.{◌∙◌, ap, arith, sym}
use Rattle.std.specs.Prelude.{find}
use Rattle.message_brief.specs.Neighbors.{is_of, options_in}
use Rattle.message_brief.proofs.PartsInTurn.{find-behind, find-here, next_option, no_options}
use Rattle.message_brief.proofs.neighbors.first_option.Goals as goal

pub returns-then-is_of-clause-value : goal.returns-then-is_of-clause-value
returns-then-is_of-clause-value c =
    let p = is_of c.args.type_ in
    let part = c.split_at.result.0.now in
    let behind = c.split_at.result.1.now in
    let option = rw c.len_of.ensures.value at c.split_at.ensures.front in
    let others = rw c.len_of.ensures.value at c.split_at.ensures.back in
    let next = next_option c.loop-left.left.now part behind (omega arith) option others in
    sym (find-here p part (options_in behind) (sym c.is_of.ensures.value ∙ c.if-is_of.true))
    ∙ sym (ap (find p) next) ∙ c.loop-left.invariant

pub loop-left-preserved : goal.loop-left-preserved
loop-left-preserved c =
    let p = is_of c.args.type_ in
    let part = c.split_at.result.0.now in
    let behind = c.split_at.result.1.now in
    let option = rw c.len_of.ensures.value at c.split_at.ensures.front in
    let others = rw c.len_of.ensures.value at c.split_at.ensures.back in
    let next = next_option c.loop-left.left.now part behind (omega arith) option others in
    sym (find-behind p part (options_in behind) (sym c.is_of.ensures.value ∙ c.if-is_of.false))
    ∙ sym (ap (find p) next) ∙ c.loop-left.invariant

pub returns-clause-value : goal.returns-clause-value
returns-clause-value c =
    let none = no_options c.loop-left.left.now (sym c.is_empty.ensures ∙ c.loop-left-test.false) in
    sym (ap (find (is_of c.args.type_)) none) ∙ c.loop-left.invariant
