use Rattle.dns_wire.proofs.DnsNameTheorem.{walks_over}
use Rattle.dns_wire.proofs.dns.name.walk.Goals as goal

pub returns : goal.returns
returns c = walks_over c.args.slice.now c.args.message.now
