-- The label, the octets, why, and the end.
use Rattle.packet_fields.proofs.EntryChains.{entry_printed}
use Rattle.icmp_fields.proofs.icmp.show_cut_entry.Goals as goal

pub returns : goal.returns
returns g c =
    entry_printed _ _ _ _ _ _ _ _ _ tt c.in_ok-open_entry.ensures c.in_ok-first_cell.ensures
    c.in_ok-keyed_cell.ensures c.close_entry.ensures
