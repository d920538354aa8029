use Rattle.dns_wire.proofs.DnsRefused.{record_one, record_refused}
use Rattle.dns_wire.proofs.dns.record.Record.parse.Goals as goal

pub returns-in-Ok-clause-complete : goal.returns-in-Ok-clause-complete
returns-in-Ok-clause-complete c value rest is = record_one c.args.buffer.now _ value _ rest c.in-Ok.ensures.sound is

pub returns-in-Err-clause-complete : goal.returns-in-Err-clause-complete
returns-in-Err-clause-complete c value rest is =
    absurd (record_refused c.args.buffer.now _ c.in-Err.ensures.told (value, rest, is))
