-- What precedes the value, and the value.
use Rattle.packet_fields.proofs.Printing.{gains_last}
use Rattle.packet_fields.proofs.Fields.{cell_on_ok}
unfoldable use Rattle.packet_fields.specs.Fields.{cell_text}
use Rattle.packet_fields.proofs.entry.cell.Goals as goal

pub returns : goal.returns
unfolding cell_text
returns g c =
    cell_on_ok _ _ _ _ c.put.result c.put.ensures.fits
    (gains_last _ _ c.put.result c.in_ok-before_cell.ensures c.put.ensures.text)
