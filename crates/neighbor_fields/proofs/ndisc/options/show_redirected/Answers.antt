-- The label, the source, the other fields and the end.
use Rattle.packet_fields.proofs.Fields.{cells_both}
use Rattle.packet_fields.proofs.EntryChains.{entry_printed}
use Rattle.neighbor_fields.proofs.ndisc.options.show_redirected.Goals as goal

pub returns : goal.returns
returns g c =
    let label = rw c.label_of.ensures.value at c.in_ok-open_entry.ensures in
    let src_addr = rw c.field-src_addr.ensures.value at c.in_ok-first_cell.ensures in
    let others = cells_both _ _ _ _ _ _ c.in_ok-show_quoted.ensures c.in_ok-hidden_number.ensures in
    entry_printed _ _ _ _ _ _ _ _ _ tt label src_addr others c.close_entry.ensures
