-- What the entry begins with, the group, the host, the source, the other values and the end.
use Rattle.packet_fields.proofs.EntryChains.{entry_printed}
use Rattle.packet_fields.proofs.Fields.{cells_both}
use Rattle.packet_stats.proofs.entries.show_source.Goals as goal

pub returns : goal.returns
returns g c =
    let source = rw c.mode_key.ensures at c.in_ok-show_keyed_address-2.ensures in
    entry_printed _ _ _ _ _ _ _ _ _ tt c.in_ok-open_entry.ensures c.in_ok-show_address.ensures
    (cells_both _ _ _ _ _ _ (cells_both _ _ _ _ _ _ c.in_ok-show_keyed_address.ensures source)
    c.in_ok-show_cells.ensures) c.close_entry.ensures
