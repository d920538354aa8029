use Rattle.dhcp_wire.proofs.Words.{◌∙◌, ◌≡◌, AreOfEthernet, IsFirstOther, List, OptionValue, inl, inner, inr, list_of}
use Rattle.dhcp_wire.proofs.Words.{options_in, refl, subst, sym}
use Rattle.dhcp_wire.proofs.Dhcpv4Lists.{list-options}
use Rattle.dhcp_wire.proofs.dhcpv4.refusal.identifier_refusal.Goals as goal

pub loop-option-init : goal.loop-option-init
loop-option-init c =
    let bytes = options_in (inner c.args.packet.now).now in
    let same : list_of bytes ≡ c.into_iter-option-iterator.result =
    c.options-option-items.ensures.unique (list_of bytes) (list-options bytes)
    ∙ sym c.into_iter-option-iterator.ensures.into_iter_gives in
    record {
      good = λ h. subst (λ (os : List OptionValue). AreOfEthernet os) (sym same) h;
      all_good = λ h. subst (λ (os : List OptionValue). AreOfEthernet os) same h;
      first = λ hardware h. subst (λ (os : List OptionValue). IsFirstOther hardware os) (sym same) h;
    }

pub returns-in-Some-other_hardware-clause-told : goal.returns-in-Some-other_hardware-clause-told
returns-in-Some-other_hardware-clause-told c =
    let bytes = options_in (inner c.args.packet.now).now in
    let hardware = c.in-Some-other_hardware.hardware in (
      list_of bytes,
      c.requires,
      list-options bytes,
      c.loop-option.invariant.first hardware
          (subst (λ (os : List OptionValue). IsFirstOther hardware os) (sym c.in-Some.ensures.steps)
          (inl c.in-Some-other_hardware.ensures.other)),
    )

pub loop-option-preserved : goal.loop-option-preserved
loop-option-preserved c =
    let steps = c.in-Some.ensures.steps in
    let own = c.in_default.ensures.own.0 refl in
    record {
      good = λ h. c.loop-option.invariant.good
          (subst (λ (os : List OptionValue). AreOfEthernet os) (sym steps) (own, h));
      all_good = λ h.
          (subst (λ (os : List OptionValue). AreOfEthernet os) steps (c.loop-option.invariant.all_good h)).1;
      first = λ hardware h. c.loop-option.invariant.first hardware
          (subst (λ (os : List OptionValue). IsFirstOther hardware os) (sym steps) (inr (own, h)));
    }
