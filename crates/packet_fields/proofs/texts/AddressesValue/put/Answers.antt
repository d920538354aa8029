-- What precedes the addresses, the addresses, and what follows them.
use Rattle.packet_fields.specs.Texts.{addresses}
use Rattle.packet_fields.proofs.TextRuns.{texts_printed}
use Rattle.packet_fields.proofs.texts.AddressesValue.put.Goals as goal

pub returns-clause-text : goal.returns-clause-text
returns-clause-text g c =
    texts_printed _ _ _ _ _ (addresses c.args.self.width c.args.self.octets.now) c.close_texts.result
    c.in_ok-open_texts.ensures c.in_ok-is_none.ensures.1 (rw c.in_ok-is_none.ensures.0 at c.close_texts.ensures)
