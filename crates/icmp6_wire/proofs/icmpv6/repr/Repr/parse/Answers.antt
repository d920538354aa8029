use Rattle.wirebase.proofs.Format.{all_rewrites}
use Rattle.wirebase.proofs.Parses.{reads-complete}
use Rattle.icmp6_wire.specs.Icmpv6.{value_of, format, IsMessage}
use Rattle.icmp6_wire.specs.Icmpv6Packet.{view_octets}
use Rattle.icmp6_wire.proofs.Icmpv6Format.{icmpv6_format}
use Rattle.icmp6_wire.proofs.Icmpv6Grammar.{message-unique}
use Rattle.icmp6_wire.proofs.icmpv6.repr.Repr.parse.Goals as goal

pub returns-clause-complete : goal.returns-clause-complete
returns-clause-complete c = λ value is.
    let octets = view_octets c.args.packet.now in
    reads-complete (IsMessage c.args.checksum_caps.now c.args.src_addr.now c.args.dst_addr.now octets)
    (message-unique c.args.checksum_caps.now c.args.src_addr.now c.args.dst_addr.now octets)
    value_of c.read.result c.read.ensures.sound (c.read.ensures.reads value is) value is

pub returns-clause-rewrites : goal.returns-clause-rewrites
returns-clause-rewrites c =
    all_rewrites (format c.args.checksum_caps.now c.args.src_addr.now c.args.dst_addr.now)
    (icmpv6_format c.args.checksum_caps.now c.args.src_addr.now c.args.dst_addr.now)
    value_of (view_octets c.args.packet.now) c.read.result c.are_bytes.ensures c.read.ensures.sound

pub returns-then-kind-clause-rewrites : goal.returns-then-kind-clause-rewrites
returns-then-kind-clause-rewrites c =
    all_rewrites (format c.args.checksum_caps.now c.args.src_addr.now c.args.dst_addr.now)
    (icmpv6_format c.args.checksum_caps.now c.args.src_addr.now c.args.dst_addr.now)
    value_of (view_octets c.args.packet.now) c.read_echo.result c.are_bytes.ensures c.read_echo.ensures.sound
