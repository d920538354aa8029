-- The name, the class, the type and the mark.
use Rattle.dns_fields.proofs.Entries.{◌beside◌}
use Rattle.packet_fields.proofs.EntryChains.{entry_printed}
use Rattle.dns_fields.proofs.record.show_asked.Goals as goal

pub returns : goal.returns
returns g c =
    entry_printed _ _ _ _ _ _ _ _ c.close_entry.result tt c.in_ok-open_entry.ensures c.in_ok-first_cell.ensures
    ((rw c.question_class-class.ensures at c.in_ok-cell.ensures) beside c.in_ok-cell-2.ensures
    beside (rw c.wants_unicast-is_marked.ensures at c.in_ok-show_mark.ensures)) c.close_entry.ensures
