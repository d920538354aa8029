-- What precedes the names, the names, and what follows them.
use Rattle.packet_fields.specs.Texts.{flag_names}
use Rattle.packet_fields.specs.Names.{rows_of}
use Rattle.packet_fields.proofs.TextRuns.{texts_printed}
use Rattle.packet_fields.proofs.texts.FlagsValue.put.Goals as goal

pub returns-clause-text : goal.returns-clause-text
returns-clause-text g c =
    texts_printed _ _ _ _ _ (flag_names (rows_of c.args.self.rows.now) c.args.self.bits) c.close_texts.result
    c.in_ok-open_texts.ensures c.in_ok-is_none.ensures.1 (rw c.in_ok-is_none.ensures.0 at c.close_texts.ensures)
