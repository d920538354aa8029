use Rattle.dns_wire.proofs.DnsReprFormat.{query_same_text}
use Rattle.dns_wire.proofs.dns.repr.Repr.same_text.Goals as goal

pub returns : goal.returns
returns c = query_same_text _ _
