-- The name, what is known of the record, its data, and what of them is cut.
use Rattle.dns_fields.proofs.Entries.{◌beside◌}
use Rattle.packet_fields.proofs.EntryChains.{entry_printed}
use Rattle.dns_fields.proofs.nbns.show_read.Goals as goal

pub returns : goal.returns
returns g c =
    entry_printed _ _ _ _ _ _ _ _ c.close_entry.result tt (rw c.label_of.ensures at c.in_ok-open_entry.ensures)
    c.in_ok-first_cell.ensures
    (c.in_ok-cell.ensures beside c.in_ok-cell-2.ensures beside c.in_ok-cell-3.ensures
    beside (c.in_ok-show_data.ensures beside (rw c.unread_data.ensures at c.in_ok-show_cut.ensures)))
    c.close_entry.ensures
