-- The octets, and why none begins.
use Rattle.dns_fields.proofs.Entries.{◌beside◌}
use Rattle.packet_fields.proofs.EntryChains.{entry_printed}
use Rattle.dns_fields.proofs.message.show_broken_at.Goals as goal

pub returns : goal.returns
returns g c =
    entry_printed _ _ _ _ _ _ _ _ c.close_entry.result tt (rw c.label_of.ensures at c.in_ok-open_entry.ensures)
    c.in_ok-show_no_name.ensures (c.in_ok-keyed_cell.ensures beside c.in_ok-show_why.ensures) c.close_entry.ensures
