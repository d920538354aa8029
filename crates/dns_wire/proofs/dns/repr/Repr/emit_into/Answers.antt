use Rattle.dns_wire.proofs.Words.{value_of}
use Rattle.dns_wire.proofs.DnsReprFormat.{query_emits}
use Rattle.dns_wire.proofs.dns.repr.Repr.emit_into.Goals as goal

pub returns : goal.returns
returns c = query_emits (value_of c.args.self.now) c.args.octets.now _ c.write.ensures
