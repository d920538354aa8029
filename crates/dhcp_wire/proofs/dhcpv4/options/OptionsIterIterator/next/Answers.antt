use Rattle.dhcp_wire.proofs.Words.{◌∙◌, inl, inr, sym, take_rest}
use Rattle.dhcp_wire.proofs.Dhcpv4Lists.{list-short, front-cut, front-option, option-progress}
use Rattle.dhcp_wire.proofs.dhcpv4.options.OptionsIterIterator.next.Goals.{then-kind-via-then-kind}
use Rattle.dhcp_wire.proofs.dhcpv4.options.OptionsIterIterator.next.Goals.{then-kind-via-else-kind+then-rest-count}
use Rattle.dhcp_wire.proofs.dhcpv4.options.OptionsIterIterator.next.Goals as goal

pub returns-in_default-clause-steps : goal.returns-in_default-clause-steps
returns-in_default-clause-steps c =
    let ended =
    sym c.self.view_is ∙ sym c.after_padding.ensures.same
    ∙ list-short c.after_padding.result.now c.in_default.len_below c.after_padding.ensures.none in
    (ended, ended)

pub returns-then-kind-clause-steps : goal.returns-then-kind-clause-steps
returns-then-kind-clause-steps c =
    let octets = c.after_padding.result.now in
    let ended =
    sym c.self.view_is ∙ sym c.after_padding.ensures.same
    ∙ front-cut octets _ c.in-len2-up.len_at_least (take_rest octets 2) c.after_padding.ensures.none
    (elim c.then-kind.branch [
      | then-kind-via-then-kind w ↦ inl w.if-kind.true
      | then-kind-via-else-kind+then-rest-count w ↦ inr w.if-rest-count.true
    ]) in
    (ended, ended)

pub returns-clause-steps : goal.returns-clause-steps
returns-clause-steps c =
    let octets = c.after_padding.result.now in
    sym c.self.view_is ∙ sym c.after_padding.ensures.same
    ∙ front-option octets _ c.split_at.result.0.now c.split_at.result.1.now c.in-len2-up.len_at_least
    (take_rest octets 2) c.after_padding.ensures.none c.if-kind.false c.if-rest-count.false c.split_at.ensures.front
    c.split_at.ensures.back

pub returns-clause-goes : goal.returns-clause-goes
returns-clause-goes c = option-progress _ _ _ (returns-clause-steps c)
