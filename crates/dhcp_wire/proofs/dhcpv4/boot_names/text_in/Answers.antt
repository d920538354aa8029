use Rattle.dhcp_wire.proofs.Words.{◌∙◌, IsTextIn, IsUtf8, List, ℕ, subst, sym}
use Rattle.dhcp_wire.proofs.Dhcpv4Text.{no_text, text-is, text-in}
use Rattle.dhcp_wire.proofs.dhcpv4.boot_names.text_in.Goals as goal

pub returns-in_err-count-clause-complete : goal.returns-in_err-count-clause-complete
returns-in_err-count-clause-complete c text t = absurd (no_text c.args.octets.now text c.in_err-count.ensures.refused t)

pub returns-in-Ok-clause-sound : goal.returns-in-Ok-clause-sound
returns-in-Ok-clause-sound c =
    let read = c.in_ok-count.ensures in
    subst (λ (text : List ℕ). IsTextIn c.args.octets.now text) (sym c.in-Ok.ensures.cases.0)
    (text-in c.args.octets.now c.in_ok-count.count read.inside read.zero read.before c.if-count-eq0.false
    c.in-Ok.ensures.cases.1)

pub returns-in-Ok-clause-complete : goal.returns-in-Ok-clause-complete
returns-in-Ok-clause-complete c text t =
    let read = c.in_ok-count.ensures in
    c.in-Ok.ensures.cases.0
    ∙ sym (text-is c.args.octets.now text c.in_ok-count.count read.inside read.zero read.before t)

pub returns-in-Err-clause-complete : goal.returns-in-Err-clause-complete
returns-in-Err-clause-complete c text t =
    let read = c.in_ok-count.ensures in
    absurd (c.in-Err.ensures.cases.0
    (subst (λ (b : List ℕ). IsUtf8 b)
    (text-is c.args.octets.now text c.in_ok-count.count read.inside read.zero read.before t) t.utf8))
