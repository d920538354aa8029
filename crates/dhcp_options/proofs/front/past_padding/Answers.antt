use Rattle.dhcp_options.proofs.Words.{◌∙◌, ◌∷◌, ℕ, add-one, ahead_of, ap, drop, drop-cons, suc, sym}
use Rattle.dhcp_options.proofs.AheadFronts.{ahead-padding}
use Rattle.dhcp_options.proofs.front.past_padding.Goals as goal

pub loop-i-preserved : goal.loop-i-preserved
loop-i-preserved c =
    let octets = c.args.octets.now in
    let i = c.loop-i.i in
    ap (λ (n : ℕ). ahead_of (drop n octets)) (add-one i) ∙ sym (ahead-padding (drop (suc i) octets))
    ∙ ap (λ (k : ℕ). ahead_of (k ∷ drop (suc i) octets)) (sym c.if-kind-ne-OPT_PAD.false)
    ∙ ap ahead_of (sym (drop-cons octets i 0 c.loop-i-test.true)) ∙ c.loop-i.invariant
