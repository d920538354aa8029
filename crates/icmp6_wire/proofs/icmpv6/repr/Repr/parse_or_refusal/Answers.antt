use Rattle.wirebase.proofs.Parses.{reads-complete}
use Rattle.icmp6_wire.specs.Icmpv6.{value_of, IsMessage}
use Rattle.icmp6_wire.specs.Icmpv6Packet.{view_octets}
use Rattle.icmp6_wire.proofs.Icmpv6Grammar.{message-unique}
use Rattle.icmp6_wire.proofs.icmpv6.repr.Repr.parse_or_refusal.Goals as goal

pub returns-clause-complete : goal.returns-clause-complete
returns-clause-complete c = λ value is.
    let octets = view_octets c.args.packet.now in
    let read = c.read_or_refusal.ensures in
    reads-complete (IsMessage c.args.checksum_caps.now c.args.src_addr.now c.args.dst_addr.now octets)
    (message-unique c.args.checksum_caps.now c.args.src_addr.now c.args.dst_addr.now octets)
    value_of c.read_or_refusal.result read.sound (read.reads value is) value is
