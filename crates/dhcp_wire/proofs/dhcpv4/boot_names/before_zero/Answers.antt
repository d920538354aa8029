use Rattle.dhcp_wire.proofs.Dhcpv4Text.{no_zero-more}
use Rattle.dhcp_wire.proofs.dhcpv4.boot_names.before_zero.Goals as goal

pub loop-i-preserved : goal.loop-i-preserved
loop-i-preserved c = no_zero-more c.args.octets.now c.loop-i.i c.loop-i-test.true c.loop-i.invariant c.if-byte-eq0.false
