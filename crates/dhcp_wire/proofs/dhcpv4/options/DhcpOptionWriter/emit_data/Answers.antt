use Rattle.dhcp_wire.proofs.Words.{arith}
use Rattle.dhcp_wire.proofs.Dhcpv4Writes.{writes}
use Rattle.dhcp_wire.proofs.dhcpv4.options.DhcpOptionWriter.emit_data.Goals as goal

pub returns-clause-free : goal.returns-clause-free
returns-clause-free g c = grind (arith, writes)
