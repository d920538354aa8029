use Rattle.dhcp_wire.proofs.Words.{arith, pieces}
use Rattle.dhcp_wire.proofs.dhcpv4.packet.Packet.options_mut.Goals as goal

pub returns : goal.returns
returns g c = grind (arith, pieces)
