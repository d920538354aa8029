-- Nothing in lines, a member in JSON.
use Rattle.packet_fields.proofs.Fields.{cell_on_ok}
unfoldable use Rattle.packet_fields.specs.Fields.{cell_text}
use Rattle.packet_fields.proofs.entry.hidden_number.Goals as goal

pub returns : goal.returns
unfolding cell_text
returns g c = cell_on_ok _ _ _ _ c.show_hidden.result c.ranges.number.fits c.show_hidden.ensures
