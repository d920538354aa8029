use Rattle.std.proofs.Common.{◌≡◌}
use Rattle.std.specs.Option.{option_map, option_or}
use Rattle.control_wire.specs.Dhcpv4.{said}
use Rattle.control_wire.specs.Ipv4.{octets_of}
use Rattle.control_wire.specs.LastOf.{last_of}
use Rattle.examples.specs.Lease.{first_in}
use Rattle.examples.proofs.lease.first_router.Given as goal

-- what the options that are left say, or else what the others said, is what all say
abbrev pub invariant-loop-option : goal.invariant-loop-option
invariant-loop-option l =
    option_or (last_of (said 3 first_in) l.option-iterator) (option_map octets_of l.router)
    ≡ last_of (said 3 first_in) l.fn.options
