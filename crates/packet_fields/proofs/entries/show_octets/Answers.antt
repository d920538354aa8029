-- The label, the octets, and the other values.
use Rattle.packet_fields.proofs.Fields.{cells_both}
use Rattle.packet_fields.proofs.EntryChains.{entry_printed}
use Rattle.packet_fields.proofs.entries.show_octets.Goals as goal

pub returns : goal.returns
returns g c =
    entry_printed _ _ _ _ _ _ _ _ c.close_entry.result tt c.in_ok-open_entry.ensures c.in_ok-first_cell.ensures
    (cells_both _ _ _ _ _ _ c.in_ok-show_refused.ensures c.in_ok-hidden_number.ensures) c.close_entry.ensures
