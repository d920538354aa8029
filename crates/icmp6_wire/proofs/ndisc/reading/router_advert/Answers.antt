use Rattle.std.proofs.Common.{refl}
use Rattle.icmp6_wire.specs.Icmpv6Packet.{view_octets}
use Rattle.icmp6_wire.specs.Words.{Message}
use Rattle.icmp6_wire.proofs.NdiscTiling.{kind_read, said_source, said_mtu, said_prefix, message_said}
use Rattle.icmp6_wire.proofs.ndisc.reading.router_advert.Goals as goal

pub returns : goal.returns
returns c =
    let s = c.requires.says in
    message_said c.requires.passes refl s (record {
      kind = kind_read (view_octets c.args.packet.now) Message.RouterAdvert c.requires.kind;
      hop_limit = c.current_hop_limit.ensures;
      flags = c.router_flags.ensures;
      router_lifetime = c.router_lifetime.ensures;
      reachable_time = c.reachable_time.ensures;
      retrans_time = c.retrans_time.ensures;
      lladdr = said_source s;
      mtu = said_mtu s;
      prefix_info = said_prefix s;
    })
