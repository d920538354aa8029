use Rattle.dns_wire.proofs.DnsSplit.{split_one}
use Rattle.dns_wire.proofs.DnsNameBreaks.{no_split}
use Rattle.dns_wire.proofs.dns.part.split_name.Goals as goal

pub returns-in-Ok-clause-complete : goal.returns-in-Ok-clause-complete
returns-in-Ok-clause-complete c name rest is = split_one c.args.text.now _ name _ rest c.in-Ok.ensures.sound is

pub returns-in-Err-clause-complete : goal.returns-in-Err-clause-complete
returns-in-Err-clause-complete c name rest is =
    absurd (no_split c.args.text.now _ c.in-Err.ensures.told name rest is)
