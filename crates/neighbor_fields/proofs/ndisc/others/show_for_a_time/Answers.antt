-- The label, the value, the lifetime, the type and the end.
use Rattle.packet_fields.proofs.EntryChains.{entry_printed}
use Rattle.packet_fields.proofs.Fields.{cells_both}
use Rattle.neighbor_fields.proofs.ndisc.others.show_for_a_time.Goals as goal

pub returns : goal.returns
returns g c =
    let label = rw c.label_of.ensures.value at c.in_ok-open_entry.ensures in
    let others = cells_both _ _ _ _ _ _ c.in_ok-show_lifetime.ensures c.in_ok-hidden_number.ensures in
    entry_printed _ _ _ _ _ _ _ _ _ c.requires label c.in_ok-first_cell.ensures others c.close_entry.ensures
