use Rattle.dhcp_wire.proofs.Words.{◌≡◌, inner, last_type, list_of, option_map, option_or, options_in}
use Rattle.dhcp_wire.proofs.dhcpv4.refusal.last_type_in.Given as goal

-- the last of the options that are left, or else the last that was met
abbrev pub invariant-loop-option : goal.invariant-loop-option
invariant-loop-option l =
    option_or (last_type l.option-iterator) (option_map (λ body. body.now) l.last)
    ≡ last_type (list_of (options_in (inner l.packet).now))
