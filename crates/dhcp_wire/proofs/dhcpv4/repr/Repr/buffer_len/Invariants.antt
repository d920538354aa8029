use Rattle.dhcp_wire.proofs.Words.{◌+◌, ◌≡◌, drop, length, map, options_text, text, value_of, value_of_option}
use Rattle.dhcp_wire.proofs.dhcpv4.repr.Repr.buffer_len.Given as goal

-- what is counted, and what is left to count
abbrev pub invariant-loop-option : goal.invariant-loop-option
invariant-loop-option l =
    l.len + length (options_text (map value_of_option (drop l.option-index l.self.additional_options.now)))
    ≡ length (text (value_of l.self))
