-- What the entry begins with, the outcome, the other values and the end.
use Rattle.packet_fields.proofs.EntryChains.{entry_printed}
use Rattle.packet_stats.proofs.entries.show_rcode.Goals as goal

pub returns : goal.returns
returns g c =
    entry_printed _ _ _ _ _ _ _ _ _ tt c.in_ok-open_entry.ensures c.in_ok-first_cell.ensures
    c.in_ok-show_cells.ensures c.close_entry.ensures
