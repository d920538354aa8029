use Rattle.std.proofs.lemmas.List.{take_rest}
use Rattle.icmp6_wire.proofs.icmpv6.quote.read_quote.Goals as goal

pub returns-clause-behind : goal.returns-clause-behind
returns-clause-behind c = take_rest c.args.octets.now 40
