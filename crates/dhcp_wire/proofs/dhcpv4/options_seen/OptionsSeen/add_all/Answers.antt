use Rattle.dhcp_wire.proofs.Words.{[], ◌∙◌, ◌∷◌, ◌≡◌, AreOfEthernet, List, MessageType, Option, OptionValue, Value, ℕ}
use Rattle.dhcp_wire.proofs.Words.{ap, byte_of, false, inner, list_of, op_field, option_or, options_in, or-assoc, subst}
use Rattle.dhcp_wire.proofs.Words.{sym, type_among, value_of, value_of_option, with_options}
use Rattle.dhcp_wire.specs.Dhcpv4Tables.{opcode_number}
use Rattle.dhcp_wire.proofs.Dhcpv4Kept.{with-none, with-more, opcode_back}
use Rattle.dhcp_wire.proofs.Dhcpv4Lists.{list-options}
use Rattle.dhcp_wire.proofs.dhcpv4.options_seen.OptionsSeen.add_all.Goals as goal

pub loop-option-init : goal.loop-option-init
loop-option-init c =
    let bytes = (inner c.args.packet.now).now in
    let op = byte_of op_field bytes in
    let whole : List OptionValue = list_of (options_in bytes) in
    let same : c.into_iter-option-iterator.result ≡ whole =
    c.into_iter-option-iterator.ensures.into_iter_gives
    ∙ sym (c.into_options-option-items.ensures.unique whole (list-options (options_in bytes))) in
    record {
      typed = ap (λ (os : List OptionValue). option_or (type_among op os) c.args.self.now.message_type) same;
      value = ap (λ (os : List OptionValue). with_options os (value_of c.args.self.now.repr)) same;
      good = λ h. subst (λ (os : List OptionValue). AreOfEthernet os) same h;
      all_good = λ h. subst (λ (os : List OptionValue). AreOfEthernet os) (sym same) h;
    }

pub loop-option-preserved : goal.loop-option-preserved
loop-option-preserved c =
    let op = byte_of op_field (inner c.args.packet.now).now in
    let seen = c.loop-option.self in
    let o = value_of_option c.in-Some.option in
    let rest = c.next.new.self in
    let steps = c.in-Some.ensures.steps in
    let same : c.into-op.result ≡ op = c.into-op.ensures ∙ ap opcode_number c.opcode.ensures ∙ opcode_back op in
    record {
      typed = ap (λ (t : Option MessageType). option_or (type_among op rest) t)
          (c.add.ensures.typed ∙ ap (λ (n : ℕ). option_or (type_among n (o ∷ [])) seen.message_type) same)
          ∙ or-assoc (type_among op rest) (type_among op (o ∷ [])) seen.message_type
          ∙ ap (λ (os : List OptionValue). option_or (type_among op os) seen.message_type) (sym steps)
          ∙ c.loop-option.invariant.typed;
      value = ap (λ (v : Value). with_options rest v) c.add.ensures.value
          ∙ sym (with-more o rest (value_of seen.repr))
          ∙ ap (λ (os : List OptionValue). with_options os (value_of seen.repr)) (sym steps)
          ∙ c.loop-option.invariant.value;
      good = λ h. c.loop-option.invariant.good
          (subst (λ (os : List OptionValue). AreOfEthernet os) (sym steps)
          (c.is_of_ethernet.ensures.0 c.if-not-is_of_ethernet.false, h));
      all_good = λ h.
          (subst (λ (os : List OptionValue). AreOfEthernet os) steps (c.loop-option.invariant.all_good h)).1;
    }

pub returns-clause-value : goal.returns-clause-value
returns-clause-value c =
    sym (with-none (value_of c.loop-option.self.repr))
    ∙ ap (λ (os : List OptionValue). with_options os (value_of c.loop-option.self.repr)) (sym c.in-None.ensures.steps.0)
    ∙ c.loop-option.invariant.value
