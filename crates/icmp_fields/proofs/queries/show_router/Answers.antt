-- The label, the address, the preference, further words and the end.
use Rattle.packet_fields.proofs.Fields.{cells_both}
use Rattle.packet_fields.proofs.EntryChains.{entry_printed}
use Rattle.icmp_fields.proofs.queries.show_router.Goals as goal

pub returns : goal.returns
returns g c =
    let addr = rw c.field-addr.ensures.value at c.in_ok-first_cell.ensures in
    let preference = rw c.u32_at.ensures at c.in_ok-keyed_cell.ensures in
    let spare = rw c.split_at.ensures.back at c.in_ok-show_spare.ensures in
    entry_printed _ _ _ _ _ _ _ _ _ tt c.in_ok-open_entry.ensures addr (cells_both _ _ _ _ _ _ preference spare)
    c.close_entry.ensures
