use Rattle.std.proofs.Common.{◌≡◌, length, sym, ◌∙◌}
use Rattle.wirebase.proofs.Format.{round_trips}
use Rattle.wirebase.proofs.Pieces.{over-exact}
use Rattle.icmp6_wire.specs.Mld.{value_of, text, text_len, format}
use Rattle.icmp6_wire.proofs.MldFormat.{mld_format, message_read}
use Rattle.icmp6_wire.proofs.MldGiven.{given}
use Rattle.icmp6_wire.proofs.MldTexts.{length-text}
use Rattle.icmp6_wire.proofs.mld.repr.Repr.emit_into.Goals as goal

pub returns : goal.returns
returns c =
    let v = value_of c.args.self.now in
    let exact : length c.args.octets.now ≡ text_len v → c.write.new.octets ≡ text v =
    λ long. c.write.ensures ∙ over-exact c.args.octets.now (text v) (long ∙ sym (length-text v)) in
    record {
      emits = record {
        written = c.write.ensures;
        exact = exact;
        reads_back = λ long canonical. rw (exact long) (message_read v canonical);
        round_trips = round_trips format mld_format v;
      };
      records = rw c.write.ensures (given v c.args.octets.now c.requires);
    }
