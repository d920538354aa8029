use Rattle.std.proofs.Common.{◌≡◌, ◌≤◌, ℕ, List, length, refl, sym, ap, ◌∙◌, arith}
use Rattle.icmp6_wire.specs.Words.{over, checksum_field}
use Rattle.wirebase.proofs.CapabilitySeals.{length-sealed_where}
use Rattle.wirebase.proofs.Format.{round_trips}
use Rattle.wirebase.proofs.Pieces.{length-over, over-exact}
use Rattle.icmp6_wire.specs.Icmpv6.{value_of, text, text_len, packet_text, seal, format}
use Rattle.icmp6_wire.proofs.Icmpv6Format.{icmpv6_format}
use Rattle.icmp6_wire.specs.Icmpv6Packet.{message_sum}
use Rattle.icmp6_wire.proofs.Icmpv6Seals.{good-seal}
use Rattle.icmp6_wire.proofs.Icmpv6Texts.{length-text, message_text, room_some}
use Rattle.icmp6_wire.proofs.icmpv6.repr.Repr.emit_into.Goals as goal

pub returns : goal.returns
returns c =
    let capabilities = c.args.checksum_caps.now in
    let source = c.args.src_addr.now in
    let destination = c.args.dst_addr.now in
    let v = value_of c.args.self.now in
    let left = c.seal.ensures ∙ ap (λ (l : List ℕ). seal capabilities source destination l) c.write.ensures in
    let exact : length c.args.octets.now ≡ text_len v → c.seal.new.octets
    ≡ packet_text capabilities source destination v =
    λ long. left ∙ ap (λ (l : List ℕ). seal capabilities source destination l)
    (over-exact c.args.octets.now (text v) (long ∙ sym (length-text v))) in
    let bytes = over c.args.octets.now (text v) in
    let some : 4 ≤ length bytes =
    omega (arith, length-over c.args.octets.now (text v), room_some v c.args.octets.now c.requires) in
    record {
      written = left;
      good = λ computed.
          let sum = message_sum source destination (length bytes) in
          let long = length-sealed_where checksum_field bytes sum refl some capabilities.icmpv6 in
          let good = good-seal capabilities.icmpv6 bytes sum some computed in
          rw (left, long) good;
      exact = exact;
      reads_back = λ long fills canonical.
          rw (exact long) (message_text capabilities source destination v fills canonical);
      round_trips =
          round_trips (format capabilities source destination) (icmpv6_format capabilities source destination) v;
    }
