-- Each turn reads one name more.
use Rattle.std.proofs.Common.{length, lit<, ap, sym, ◌∙◌}
use Rattle.std.proofs.lemmas.Iterator.Consumers.{YieldsList-so_far, YieldsList-turn, YieldsList-end}
use Rattle.std.proofs.lemmas.Iterator.Splits.{YieldsList-from_str_split}
use Rattle.dump_captures.specs.Arguments.{only_of, with_names}
use Rattle.dump_captures.proofs.Names.{names-stop}
use Rattle.dump_captures.proofs.only.read_only.Goals as goal

pub returns-in_default-clause-wrong : goal.returns-in_default-clause-wrong
unfolding only_of
returns-in_default-clause-wrong c =
    let road = YieldsList-from_str_split 44 c.args.list.now (lit< tt) (cc) (cc) (cc) in
    let front = YieldsList-so_far road c.loop-name.yielded _ c.loop-name.yielded_by in
    let turn =
    YieldsList-turn road c.loop-name.yielded _ c.loop-name.yielded_by _ _ c.in-Some.name c.in-Some.is
    c.next.ensures.steps in
    names-stop _ _ (length c.loop-name.yielded) c.in-Some.name.now c.loop-name.only front turn
    c.loop-name.invariant.2 (sym c.with_name.ensures ∙ c.in_default.is)

pub returns-clause-only : goal.returns-clause-only
unfolding only_of
returns-clause-only c =
    let road = YieldsList-from_str_split 44 c.args.list.now (lit< tt) (cc) (cc) (cc) in
    let all = YieldsList-end road c.loop-name.yielded _ c.loop-name.yielded_by _ _ c.in-None.is c.next.ensures.steps in
    ap with_names (sym all.0) ∙ c.loop-name.invariant.2
