-- A dot, and a digit three times.
use Rattle.packet_fields.proofs.Printing.{◌then◌, gained, gains_last, put, put_on_ok}
use Rattle.packet_fields.proofs.value.put_millis.Goals as goal

pub returns : goal.returns
returns g c =
    gains_last _ _ c.put_number-3.result
    (gained _ _ _ c.in_ok-write_all.ensures.bytes
    then put g.W.Write.contents _ _ _ c.in_ok-put_number.ensures
    then put g.W.Write.contents _ _ _ c.in_ok-put_number-2.ensures)
    (put_on_ok g.W.Write.contents _ _ _ c.put_number-3.result c.put_number-3.ensures)
