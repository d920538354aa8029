use Rattle.dhcp_options.proofs.Words.{◌∙◌, ap, arith, length, length-drop, sym}
use Rattle.dhcp_options.proofs.AheadFronts.{ahead-nothing-left, ahead-end, ahead-lone, ahead-torn, ahead-option}
use Rattle.dhcp_options.proofs.front.read_front.Goals as goal

pub returns-in_default : goal.returns-in_default
returns-in_default c = sym c.past_padding.ensures.same ∙ ahead-nothing-left _ c.in_default.ensures.cases

pub returns-then-kind : goal.returns-then-kind
returns-then-kind c =
    sym c.past_padding.ensures.same ∙ ahead-end _ _ _ c.in-Some.ensures.cases.0 c.if-kind.true

pub returns-in_default-split_first : goal.returns-in_default-split_first
returns-in_default-split_first c =
    sym c.past_padding.ensures.same
    ∙ ahead-lone _ _ _ c.in-Some.ensures.cases.0 c.past_padding.ensures.none c.if-kind.false
    c.in_default-split_first.ensures.cases

pub returns-in_default-split_at_checked : goal.returns-in_default-split_at_checked
returns-in_default-split_at_checked c =
    sym c.past_padding.ensures.same
    ∙ ahead-torn _ _ _ _ _ c.in-Some.ensures.cases.0 c.past_padding.ensures.none c.if-kind.false
    c.in-Some-split_first.ensures.cases.0 c.in_default-split_at_checked.ensures.cases

pub returns : goal.returns
returns c =
    let split = c.in-Some-split_at_checked.ensures.cases in (
      sym c.past_padding.ensures.same
          ∙ ahead-option _ _ _ _ _ _ _ c.in-Some.ensures.cases.0 c.past_padding.ensures.none c.if-kind.false
          c.in-Some-split_first.ensures.cases.0 split.0 split.1 split.2,
      omega (
        arith,
        c.past_padding.ensures.fewer,
        ap length c.in-Some.ensures.cases.0,
        ap length c.in-Some-split_first.ensures.cases.0,
        ap length split.2,
        length-drop c.in-Some-split_first.count.now c.in-Some-split_first.body.now,
      ),
    )
