use Rattle.dhcp_wire.proofs.Words.{HasNoZero, take}
use Rattle.dhcp_wire.proofs.dhcpv4.boot_names.before_zero.Given as goal

abbrev pub invariant-loop-i : goal.invariant-loop-i
invariant-loop-i l = HasNoZero (take l.i l.octets)
