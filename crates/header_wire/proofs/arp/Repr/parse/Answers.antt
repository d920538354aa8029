use Rattle.std.proofs.Common.{rules}
use Rattle.header_wire.proofs.ArpFormat.{packet_rewrites}
use Rattle.header_wire.proofs.arp.Repr.parse.Goals as goal

pub returns-clause-rewrites : goal.returns-clause-rewrites
returns-clause-rewrites c = packet_rewrites c.args.octets.now _ c.are_bytes.ensures (search rules)
