-- None of the bytes so far is zero.
use Rattle.std.proofs.Common.{take}
use Rattle.dhcp_wire.specs.Dhcpv4Packet.{HasNoZero}
use Rattle.dhcp_fields.proofs.texts.before_zero.Given as goal

abbrev pub invariant-loop-place : goal.invariant-loop-place
invariant-loop-place l = HasNoZero (take l.place l.octets)
