use Rattle.dhcp_wire.proofs.Words.{◌∙◌, ◌∷◌, ℕ, add-one, ap, drop, drop-cons, list_of, suc, sym}
use Rattle.dhcp_wire.proofs.Dhcpv4Lists.{list-padding}
use Rattle.dhcp_wire.proofs.dhcpv4.options.past_octets.Goals as goal

pub loop-i-preserved : goal.loop-i-preserved
loop-i-preserved c =
    let octets = c.args.octets.now in
    let i = c.loop-i.i in
    ap (λ (n : ℕ). list_of (drop n octets)) (add-one i) ∙ sym (list-padding (drop (suc i) octets))
    ∙ ap (λ (k : ℕ). list_of (k ∷ drop (suc i) octets)) (sym c.if-kind-ne-OPT_PAD.false)
    ∙ ap list_of (sym (drop-cons octets i 0 c.loop-i-test.true)) ∙ c.loop-i.invariant
