-- The label, the group, the sources, auxiliary data, the type and the end.
use Rattle.packet_fields.proofs.Fields.{cells_both}
use Rattle.packet_fields.proofs.EntryChains.{entry_printed}
use Rattle.neighbor_fields.proofs.records.show_whole.Goals as goal

pub returns : goal.returns
returns g c =
    let end_is = c.sources_end-sources_end.ensures.value in
    let label = rw c.label_of.ensures.value at c.in_ok-open_entry.ensures in
    let group = rw c.range.ensures.value at c.in_ok-first_cell.ensures in
    let sources = rw (c.range-octets.ensures.value, end_is) at c.in_ok-keyed_cell.ensures in
    let aux_data = rw (c.split_at.ensures.back, end_is) at c.in_ok-show_aux_data.ensures in
    let others = cells_both _ _ _ _ _ _ (cells_both _ _ _ _ _ _ sources aux_data) c.in_ok-hidden_number.ensures in
    entry_printed _ _ _ _ _ _ _ _ _ tt label group others c.close_entry.ensures
