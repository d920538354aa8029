use Rattle.std.proofs.Common.{refl}
use Rattle.icmp6_wire.specs.Icmpv6Packet.{view_octets}
use Rattle.icmp6_wire.specs.Words.{Message}
use Rattle.icmp6_wire.proofs.NdiscTiling.{kind_read, said_source, message_said}
use Rattle.icmp6_wire.proofs.ndisc.reading.router_solicit.Goals as goal

pub returns : goal.returns
returns c =
    let s = c.requires.says in
    message_said c.requires.passes refl s (
      kind_read (view_octets c.args.packet.now) Message.RouterSolicit c.requires.kind,
      said_source s,
    )
