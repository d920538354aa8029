use Rattle.wirebase.proofs.Format.{rewrites}
use Rattle.icmp6_wire.specs.Icmpv6Packet.{view_octets}
use Rattle.icmp6_wire.specs.Mld.{format}
use Rattle.icmp6_wire.proofs.MldFormat.{mld_format}
use Rattle.icmp6_wire.proofs.MldTexts.{message-one}
use Rattle.icmp6_wire.proofs.mld.repr.Repr.parse.Goals as goal

pub returns-in-Ok-clause-complete : goal.returns-in-Ok-clause-complete
returns-in-Ok-clause-complete c = λ value is.
    message-one (view_octets c.args.packet.now) _ value c.in-Ok.ensures.sound is

pub returns-in-Ok-clause-rewrites : goal.returns-in-Ok-clause-rewrites
returns-in-Ok-clause-rewrites c = λ short.
    rewrites format mld_format (view_octets c.args.packet.now) _ c.are_bytes.ensures short c.in-Ok.ensures.sound
