-- The label, the length, the type and the end.
use Rattle.std.proofs.Common.{◌<◌, ◌^◌, rules}
use Rattle.packet_fields.proofs.EntryChains.{entry_printed}
use Rattle.neighbor_fields.proofs.hop_by_hop.show_jumbo.Goals as goal

pub returns : goal.returns
returns g c =
    let len_is = c.u32_at.ensures in
    let fits : c.u32_at.result < 2 ^ 64 = search rules in
    let label = rw c.label_of.ensures.value at c.in_ok-open_entry.ensures in
    let len = rw len_is at c.in_ok-first_cell.ensures in
    entry_printed _ _ _ _ _ _ _ _ _ (rw len_is at fits) label len c.in_ok-hidden_number.ensures c.close_entry.ensures
