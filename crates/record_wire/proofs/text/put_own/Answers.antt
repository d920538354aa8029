use Rattle.record_wire.proofs.Words.{[]}
use Rattle.record_wire.specs.RData.{rdata_of}
use Rattle.record_wire.specs.RecordText.{data_text_of}
use Rattle.record_wire.proofs.Lines.{own_put}
use Rattle.record_wire.proofs.text.put_own.Goals as goal

pub returns : goal.returns
returns g c =
    record {
      calls = own_put g.S.Sink.took _ _ _ [] (rdata_of c.octets.result) (data_text_of c.args.«data».now) _
          c.octets.ensures
          c.in_ok-put_data.ensures;
    }
