use Rattle.std.proofs.Common.{ℕ, refl}
use Rattle.header_wire.specs.Icmpv6.{value_of, message_sum}
use Rattle.header_wire.proofs.Icmpv6Format.{message_emits}
use Rattle.header_wire.proofs.icmpv6.Message.emit_into.Goals as goal

pub returns : goal.returns
returns c =
    message_emits (λ (len : ℕ). message_sum c.args.src_addr.now c.args.dst_addr.now len) c.message_sum-sum.result
    (value_of c.args.self.now) c.args.octets.now c.write.new.octets c.fill.new.octets c.message_sum-sum.ensures
    c.write.ensures c.fill.ensures.sealed (c.fill.ensures.good refl)
