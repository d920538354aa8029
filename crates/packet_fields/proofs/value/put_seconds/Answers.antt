-- The seconds, what follows them, and the unit.
use Rattle.packet_fields.proofs.Printing.{◌then◌, gained_on_ok, gains_last, put}
use Rattle.packet_fields.proofs.value.put_seconds.Goals as goal

pub returns : goal.returns
returns g c =
    gains_last _ _ c.write_all.result
    (put g.W.Write.contents _ _ _ c.in_ok-put_number.ensures then c.in_ok-put_fraction.ensures)
    (gained_on_ok _ _ _ _ c.write_all.ensures.bytes)
