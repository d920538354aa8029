use Rattle.dhcp_options.proofs.Words.{◌≡◌, first_said, list_of, options_in}
use Rattle.dhcp_options.proofs.overload.Overload.of.Given as goal

-- what the options that are left say first, all say
abbrev pub invariant-loop-option : goal.invariant-loop-option
invariant-loop-option l = first_said l.option-iterator ≡ first_said (list_of (options_in l.octets))
