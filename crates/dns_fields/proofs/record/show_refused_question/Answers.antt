-- What is known of it, and why it is refused.
use Rattle.dns_fields.proofs.Entries.{◌beside◌}
use Rattle.packet_fields.proofs.EntryChains.{entry_printed}
use Rattle.dns_fields.proofs.record.show_refused_question.Goals as goal

pub returns : goal.returns
returns g c =
    entry_printed _ _ _ _ _ _ _ _ c.close_entry.result tt c.in_ok-open_entry.ensures c.in_ok-show_no_name.ensures
    (c.in_ok-keyed_cell.ensures beside (rw c.question_class-class.ensures at c.in_ok-keyed_cell-2.ensures)
    beside c.in_ok-keyed_cell-3.ensures beside (rw c.wants_unicast-is_marked.ensures at c.in_ok-show_mark.ensures)
    beside c.in_ok-show_why.ensures) c.close_entry.ensures
