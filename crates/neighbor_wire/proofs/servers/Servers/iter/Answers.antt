use Rattle.neighbor_wire.specs.Servers.{octets_in}
use Rattle.neighbor_wire.proofs.ServersAhead.{servers_of}
use Rattle.neighbor_wire.proofs.servers.Servers.iter.Goals as goal

pub returns : goal.returns
returns c = servers_of (octets_in c.args.self.now)
