use Rattle.dns_fields.proofs.Entries.{◌beside◌}
use Rattle.packet_fields.proofs.EntryChains.{cells_last}
use Rattle.dns_fields.proofs.record.show_known.Goals as goal

pub returns : goal.returns
returns g c =
    cells_last _ _ c.show_mark.result
    (c.in_ok-keyed_cell.ensures beside (rw c.record_class-class.ensures at c.in_ok-keyed_cell-2.ensures)
    beside c.in_ok-keyed_cell-3.ensures beside c.in_ok-keyed_cell-4.ensures)
    (rw c.flushes_cache-is_marked.ensures at c.show_mark.ensures)
