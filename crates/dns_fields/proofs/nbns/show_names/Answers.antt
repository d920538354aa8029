-- The names, and what is behind them.
use Rattle.packet_fields.proofs.EntryChains.{cells_last}
use Rattle.dns_fields.proofs.nbns.show_names.Goals as goal

pub returns : goal.returns
returns g c =
    cells_last _ _ c.keyed_cell.result (rw c.split_names.ensures.names at c.in_ok-cell.ensures)
    (rw c.split_names.ensures.statistics at c.keyed_cell.ensures)
