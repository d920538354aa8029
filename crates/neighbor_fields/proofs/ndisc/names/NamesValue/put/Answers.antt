-- What precedes the names, the names, and what follows them.
use Rattle.packet_fields.proofs.TextRuns.{texts_printed}
use Rattle.neighbor_fields.specs.NdiscTexts.{names_in}
use Rattle.neighbor_fields.proofs.ndisc.names.NamesValue.put.Goals as goal

pub returns-clause-text : goal.returns-clause-text
returns-clause-text g c =
    texts_printed _ _ _ _ _ (names_in c.args.self.0.now) c.close_texts.result
    c.in_ok-open_texts.ensures c.in_ok-is_none.ensures.1 (rw c.in_ok-is_none.ensures.0 at c.close_texts.ensures)
