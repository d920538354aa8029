use Rattle.std.proofs.Common.{sym, ◌∙◌}
use Rattle.wirebase.proofs.Format.{round_trips}
use Rattle.wirebase.proofs.Pieces.{over-exact}
use Rattle.icmp6_wire.specs.MldRecord.{value_of, text, format}
use Rattle.icmp6_wire.proofs.MldRecords.{length-text, record_format}
use Rattle.icmp6_wire.proofs.mld.record.AddressRecordRepr.emit_into.Goals as goal

pub returns : goal.returns
returns c =
    let v = value_of c.args.self.now in
    record {
      written = c.write.ensures;
      exact = λ long. c.write.ensures ∙ over-exact c.args.octets.now (text v) (long ∙ sym (length-text v));
      round_trips = round_trips format record_format v;
    }
