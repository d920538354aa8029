-- A hardware address has 16 octets at most, so there is room.
use Rattle.std.proofs.Common.{rules}
use Rattle.packet_stats.proofs.DhcpSaid.{few_octets}
use Rattle.packet_stats.proofs.dhcp.hardware_of.Goals as goal

pub returns : goal.returns
returns c =
    search (
      rules,
      few_octets c.args.octets.now c.hardware_address.result.now c.hardware_address.ensures,
    )
