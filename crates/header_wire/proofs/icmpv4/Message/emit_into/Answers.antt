use Rattle.std.proofs.Common.{refl}
use Rattle.header_wire.specs.Icmpv4.{value_of}
use Rattle.header_wire.proofs.MessageFormat.{message_emits}
use Rattle.header_wire.proofs.icmpv4.Message.emit_into.Goals as goal

pub returns : goal.returns
returns c =
    message_emits (value_of c.args.self.now) c.args.octets.now c.write.new.octets c.fill.new.octets c.write.ensures
    c.fill.ensures.sealed (c.fill.ensures.good refl)
