-- Why there is no value, and the number.
use Rattle.packet_fields.proofs.Fields.{cells_both}
use Rattle.packet_fields.proofs.EntryChains.{entry_printed}
use Rattle.dhcp_fields.proofs.options.show_long.Goals as goal

pub returns : goal.returns
returns g c =
    entry_printed _ _ _ _ _ _ _ _ c.close_entry.result tt c.in_ok-open_entry.ensures c.in_ok-first_cell.ensures
    (cells_both _ _ _ _ _ _ c.in_ok-keyed_cell.ensures c.in_ok-hidden_number.ensures) c.close_entry.ensures
