use Rattle.record_wire.proofs.Words.{[], Ok, refl}
use Rattle.wirebase.proofs.Sinks.{displayed}
use Rattle.record_wire.specs.RData as rdata
use Rattle.record_wire.specs.RecordText.{authority, authority_text_of}
use Rattle.record_wire.proofs.Lines.{own_put}
use Rattle.record_wire.proofs.text.AuthorityTextDisplay.fmt.Goals as goal

pub returns-clause-writes : goal.returns-clause-writes
returns-clause-writes g c =
    let read = authority_text_of c.args.self.now in
    displayed g.W.Write.write_str_gives _ _ (Ok tt) _
    (record {
      calls = own_put _ _ _ [] [] (rdata.authority (rdata.authority_of c.octets.result)) (authority read) _
          (read, c.octets.ensures, refl) c.in_ok-put_authority.ensures;
    })
