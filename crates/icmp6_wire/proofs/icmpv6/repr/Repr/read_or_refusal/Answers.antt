use Rattle.std.proofs.Common.{◌≡◌, true, rules}
use Rattle.icmp6_wire.specs.Words.{Passes}
use Rattle.icmp6_wire.specs.Icmpv6.{checks}
use Rattle.icmp6_wire.specs.Icmpv6Packet.{view_octets, message_in}
use Rattle.icmp6_wire.specs.Icmpv6Tables.{is_ndisc}
use Rattle.icmp6_wire.proofs.Icmpv6Grammar.{neighbor_refused}
use Rattle.icmp6_wire.proofs.icmpv6.repr.Repr.read_or_refusal.Goals as goal

pub returns-in-Err-read : goal.returns-in-Err-read
returns-in-Err-read c =
    let capabilities = c.args.checksum_caps.now in
    let source = c.args.src_addr.now in
    let destination = c.args.dst_addr.now in
    let bytes = view_octets c.args.packet.now in
    let is : is_ndisc (message_in bytes) ≡ true = search rules in
    let passes : Passes (checks capabilities source destination bytes) = search rules in
    record {
      sound = tt;
      reads = search rules;
      told = neighbor_refused capabilities source destination bytes c.in-Err-read.reason passes is
          c.in-Err-read.ensures.told;
    }
