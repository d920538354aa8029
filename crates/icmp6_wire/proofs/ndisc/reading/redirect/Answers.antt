use Rattle.std.proofs.Common.{refl}
use Rattle.icmp6_wire.specs.Icmpv6Packet.{view_octets}
use Rattle.icmp6_wire.specs.Words.{Message}
use Rattle.icmp6_wire.proofs.NdiscTiling.{kind_read, said_target, said_packet, message_said}
use Rattle.icmp6_wire.proofs.ndisc.reading.redirect.Goals as goal

pub returns : goal.returns
returns c =
    let s = c.requires.says in
    message_said c.requires.passes refl s (
      kind_read (view_octets c.args.packet.now) Message.Redirect c.requires.kind,
      c.target_addr.ensures,
      c.dest_addr.ensures,
      said_target s,
      said_packet s,
    )
