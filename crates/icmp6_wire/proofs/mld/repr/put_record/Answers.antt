use Rattle.std.proofs.Common.{refl, sym, ap, ◌∙◌, length}
use Rattle.icmp6_wire.specs.Words.{sheet, put}
use Rattle.icmp6_wire.specs.MldRecord.{value_of}
use Rattle.icmp6_wire.proofs.MldRecords.{length-text, over-record_whole}
use Rattle.icmp6_wire.proofs.mld.repr.put_record.Goals as goal

pub returns-clause-puts : goal.returns-clause-puts
returns-clause-puts c =
    let v = value_of c.args.repr.now in
    let written = c.write.ensures
    ∙ over-record_whole c.part.result.now v (c.part.ensures.len ∙ c.buffer_len.ensures) in
    record {
      puts = c.part.ensures.puts _ (ap length written ∙ length-text v ∙ sym c.buffer_len.ensures)
          ∙ ap (put (sheet c.args.w.now)) written;
      same_slice = refl;
    }
