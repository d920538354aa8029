use Rattle.dns_wire.proofs.DnsRefused.{data_one}
use Rattle.dns_wire.proofs.dns.record.RecordData.parse.Goals as goal

pub returns-in-Ok-clause-complete : goal.returns-in-Ok-clause-complete
returns-in-Ok-clause-complete c value is = data_one c.args.type_ c.args.«data».now _ value c.in-Ok.ensures.sound is
