-- The label, the prefix, the other fields and the end.
use Rattle.packet_fields.proofs.Fields.{cells_both}
use Rattle.packet_fields.proofs.EntryChains.{entry_printed}
use Rattle.neighbor_fields.proofs.ndisc.options.show_prefix.Goals as goal

pub returns : goal.returns
returns g c =
    let label = rw c.label_of.ensures.value at c.in_ok-open_entry.ensures in
    let prefix = rw (c.field.ensures.value, c.u8_at.ensures) at c.in_ok-first_cell.ensures in
    let others = cells_both _ _ _ _ _ _ c.in_ok-show_lifetimes.ensures c.in_ok-hidden_number.ensures in
    entry_printed _ _ _ _ _ _ _ _ _ tt label prefix others c.close_entry.ensures
