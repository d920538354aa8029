-- A quotation mark, the text, and another.
use Rattle.packet_fields.proofs.Puts.{in_quotes}
use Rattle.packet_fields.proofs.value.put_string.Goals as goal

pub returns : goal.returns
returns g c =
    in_quotes g.W.Write.contents _ _ _ _ (g.T.Text.text_of c.args.value) c.write_all-2.result
    c.in_ok-write_all.ensures.bytes c.in_ok-put_into.ensures c.write_all-2.ensures.bytes
