use Rattle.dhcp_wire.proofs.Words.{◌+◌, ◌∙◌, ◌≡◌, ℕ, ap, arith, length, map, options_text, sym, text, value_of}
use Rattle.dhcp_wire.proofs.Words.{value_of_option}
use Rattle.dhcp_wire.proofs.Dhcpv4Lengths.{lengths, text_len-fields, text_len-whole}
use Rattle.dhcp_wire.proofs.dhcpv4.repr.Repr.buffer_len.Goals as goal

pub loop-option-init : goal.loop-option-init
loop-option-init c =
    ap (λ (n : ℕ). n + length (options_text (map value_of_option c.args.self.now.additional_options.now)))
    c.fields_len-len.ensures
    ∙ sym (text_len-fields (value_of c.args.self.now))

pub overflow_add-len-in-loop-option : goal.overflow_add-len-in-loop-option
overflow_add-len-in-loop-option c =
    let whole = text_len-whole (value_of c.args.self.now) in
    grind (arith, lengths, whole)

pub returns-clause-value : goal.returns-clause-value
returns-clause-value c =
    let counted : c.loop-option.len ≡ length (text (value_of c.args.self.now)) = grind (arith, lengths) in
    counted ∙ text_len-whole (value_of c.args.self.now)
