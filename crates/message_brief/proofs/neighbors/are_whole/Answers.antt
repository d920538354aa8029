-- Each turn passes over an option.
use Rattle.std.proofs.Common.{◌∙◌, ap, arith, sym}
use Rattle.std.specs.List.{list_all}
use Rattle.message_brief.specs.Neighbors.{is_whole_option, options_in}
use Rattle.message_brief.proofs.PartsInTurn.{all-behind, all-here, next_option, no_options}
use Rattle.message_brief.proofs.neighbors.are_whole.Goals as goal

pub returns-then-not-is_whole_option : goal.returns-then-not-is_whole_option
returns-then-not-is_whole_option c =
    let part = c.split_at.result.0.now in
    let behind = c.split_at.result.1.now in
    let option = rw c.len_of.ensures.value at c.split_at.ensures.front in
    let others = rw c.len_of.ensures.value at c.split_at.ensures.back in
    let next = next_option c.loop-left.left.now part behind (omega arith) option others in
    sym (all-here is_whole_option part (options_in behind)
    (sym c.is_whole_option.ensures.value ∙ c.if-not-is_whole_option.true))
    ∙ sym (ap (list_all is_whole_option) next) ∙ c.loop-left.invariant

pub loop-left-preserved : goal.loop-left-preserved
loop-left-preserved c =
    let part = c.split_at.result.0.now in
    let behind = c.split_at.result.1.now in
    let option = rw c.len_of.ensures.value at c.split_at.ensures.front in
    let others = rw c.len_of.ensures.value at c.split_at.ensures.back in
    let next = next_option c.loop-left.left.now part behind (omega arith) option others in
    sym (all-behind is_whole_option part (options_in behind)
    (sym c.is_whole_option.ensures.value ∙ c.if-not-is_whole_option.false))
    ∙ sym (ap (list_all is_whole_option) next) ∙ c.loop-left.invariant

pub returns : goal.returns
returns c =
    let none = no_options c.loop-left.left.now (sym c.is_empty.ensures ∙ c.loop-left-test.false) in
    sym (ap (list_all is_whole_option) none) ∙ c.loop-left.invariant
