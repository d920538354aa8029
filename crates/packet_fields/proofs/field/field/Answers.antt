-- What precedes the value, the value, and what follows it.
use Rattle.packet_fields.proofs.Printing.{◌then◌, gains_last}
use Rattle.packet_fields.proofs.Fields.{one_on_ok}
unfoldable use Rattle.packet_fields.specs.Fields.{item_text}
use Rattle.packet_fields.proofs.field.field.Goals as goal

pub returns : goal.returns
unfolding item_text
returns g c =
    one_on_ok _ _ _ _ _ c.put.ensures.fits
    (gains_last _ _ c.end.result (c.in_ok-begin.ensures then c.in_ok-put.ensures.text) c.end.ensures)
