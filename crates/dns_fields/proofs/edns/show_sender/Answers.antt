use Rattle.dns_fields.proofs.Entries.{◌beside◌}
use Rattle.packet_fields.proofs.EntryChains.{cells_last}
use Rattle.dns_fields.proofs.edns.show_sender.Goals as goal

pub returns : goal.returns
returns g c =
    cells_last _ _ c.keyed_cell-4.result
    (c.in_ok-keyed_cell.ensures beside c.in_ok-keyed_cell-2.ensures beside c.in_ok-keyed_cell-3.ensures)
    (rw c.flag_names.ensures at c.keyed_cell-4.ensures)
