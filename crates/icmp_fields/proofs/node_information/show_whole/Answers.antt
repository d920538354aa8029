-- The label, the address, its time to live, and the end.
use Rattle.packet_fields.proofs.EntryChains.{entry_printed}
use Rattle.icmp_fields.proofs.node_information.show_whole.Goals as goal

pub returns : goal.returns
returns g c =
    let address = rw c.range.ensures.value at c.in_ok-first_cell.ensures in
    let ttl = rw c.u32_at.ensures at c.in_ok-keyed_cell.ensures in
    entry_printed _ _ _ _ _ _ _ _ _ tt c.in_ok-open_entry.ensures address ttl c.close_entry.ensures
