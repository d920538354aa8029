use Rattle.std.proofs.Common.{ℕ}
use Rattle.header_wire.specs.Icmpv6.{message_sum}
use Rattle.header_wire.proofs.Icmpv6Format.{all_rewrite}
use Rattle.header_wire.proofs.icmpv6.Message.parse.Goals as goal

pub returns-clause-rewrites : goal.returns-clause-rewrites
returns-clause-rewrites c =
    all_rewrite (λ (len : ℕ). message_sum c.args.src_addr.now c.args.dst_addr.now len) c.message_sum-sum.result
    c.args.octets.now c.read.result c.are_bytes.ensures c.read.ensures.sound
