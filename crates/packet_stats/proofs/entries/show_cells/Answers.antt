-- The count, and the times.
use Rattle.packet_fields.proofs.EntryChains.{cells_last}
use Rattle.packet_stats.proofs.entries.show_cells.Goals as goal

pub returns : goal.returns
returns g c = cells_last _ _ _ c.in_ok-keyed_cell.ensures c.show_times.ensures
