use Rattle.packet_fields.proofs.Fields.{prints_last}
use Rattle.dns_fields.proofs.header.show_header.Goals as goal

pub returns : goal.returns
returns g c =
    prints_last _ _ c.show_word.result (rw c.u16_at.ensures at c.in_ok-field.ensures)
    (rw c.word_of.ensures at c.show_word.ensures)
