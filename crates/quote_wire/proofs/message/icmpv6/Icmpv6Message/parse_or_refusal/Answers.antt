use Rattle.std.proofs.Common.{rules}
use Rattle.quote_wire.proofs.message.icmpv6.Icmpv6Message.parse_or_refusal.Goals as goal

pub returns-in-Err-parse_or_refusal-clause-told : goal.returns-in-Err-parse_or_refusal-clause-told
returns-in-Err-parse_or_refusal-clause-told c =
    (search rules, rw c.new_unchecked-packet.ensures at c.in-Err-parse_or_refusal.ensures.told)
