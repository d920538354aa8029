use Rattle.dhcp_wire.proofs.Words.{◌≡◌, drop, list_of}
use Rattle.dhcp_wire.proofs.dhcpv4.options.past_octets.Given as goal

abbrev pub invariant-loop-i : goal.invariant-loop-i
invariant-loop-i l = list_of (drop l.i l.octets) ≡ list_of l.octets
