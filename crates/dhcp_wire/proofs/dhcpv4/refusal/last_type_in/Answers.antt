use Rattle.dhcp_wire.proofs.Words.{◌∙◌, ◌≡◌, List, OptionValue, ap, inner, last_type, list_of, options_in, or-none, sym}
use Rattle.dhcp_wire.proofs.Dhcpv4Lists.{list-options}
use Rattle.dhcp_wire.proofs.dhcpv4.refusal.last_type_in.Goals as goal

pub loop-option-init : goal.loop-option-init
loop-option-init c =
    let bytes = options_in (inner c.args.packet.now).now in
    let same : list_of bytes ≡ c.into_iter-option-iterator.result =
    c.options-option-items.ensures.unique (list_of bytes) (list-options bytes)
    ∙ sym c.into_iter-option-iterator.ensures.into_iter_gives in
    or-none (last_type c.into_iter-option-iterator.result)
    ∙ ap (λ (os : List OptionValue). last_type os) (sym same)
