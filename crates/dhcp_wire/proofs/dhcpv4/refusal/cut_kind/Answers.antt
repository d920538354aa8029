use Rattle.dhcp_wire.proofs.Words.{None}
use Rattle.dhcp_wire.proofs.Dhcpv4Refusal.{ends-none, ends-mark, ends-padding, ends-lone, ends-torn, ends-option}
use Rattle.dhcp_wire.proofs.dhcpv4.refusal.cut_kind.Goals as goal

pub returns-then-kind : goal.returns-then-kind
returns-then-kind c =
    c.loop-first.invariant None (ends-mark _ _ _ c.in-Some.ensures.cases.0 c.if-kind.true)

pub loop-first-preserved-then-kind-eq-OPT_PAD : goal.loop-first-preserved-then-kind-eq-OPT_PAD
loop-first-preserved-then-kind-eq-OPT_PAD c = λ cut h.
    c.loop-first.invariant cut (ends-padding _ _ _ cut c.in-Some.ensures.cases.0 c.if-kind-eq-OPT_PAD.true h)

pub returns-in_default-split_first : goal.returns-in_default-split_first
returns-in_default-split_first c =
    c.loop-first.invariant _
    (ends-lone _ _ _ c.in-Some.ensures.cases.0 c.if-kind.false c.if-kind-eq-OPT_PAD.false
    c.in_default-split_first.ensures.cases)

pub returns-in_default-split_at_checked : goal.returns-in_default-split_at_checked
returns-in_default-split_at_checked c =
    c.loop-first.invariant _
    (ends-torn _ _ _ _ _ c.in-Some.ensures.cases.0 c.if-kind.false c.if-kind-eq-OPT_PAD.false
    c.in-Some-split_first.ensures.cases.0 c.in_default-split_at_checked.ensures.cases)

pub loop-first-preserved : goal.loop-first-preserved
loop-first-preserved c = λ cut h.
    let split = c.in-Some-split_at_checked.ensures.cases in
    c.loop-first.invariant cut
    (ends-option _ _ _ _ _ _ _ cut c.in-Some.ensures.cases.0 c.if-kind.false c.if-kind-eq-OPT_PAD.false
    c.in-Some-split_first.ensures.cases.0 split.0 split.1 split.2 h)

pub returns : goal.returns
returns c = c.loop-first.invariant None (ends-none _ c.in_default.ensures.cases)
