use Rattle.dhcp_wire.proofs.Words.{arith, pieces}
use Rattle.dhcp_wire.proofs.dhcpv4.packet.Packet.set_sname_and_boot_file_to_zero.Goals as goal

pub returns-clause-len : goal.returns-clause-len
returns-clause-len g c = grind (arith, pieces)
