-- The label, the prefix, the preference, the lifetime, the type and the end.
use Rattle.packet_fields.proofs.EntryChains.{entry_printed}
use Rattle.packet_fields.proofs.Fields.{cells_both}
use Rattle.neighbor_fields.proofs.ndisc.others.show_route.Goals as goal

pub returns : goal.returns
returns g c =
    let label = rw c.label_of.ensures.value at c.in_ok-open_entry.ensures in
    let prefix =
    rw (c.prefix_address-address.ensures, c.split_at.ensures.back, c.u8_at-len.ensures) at c.in_ok-first_cell.ensures in
    let preference = rw c.u8_at.ensures at c.in_ok-show_preference.ensures in
    let lifetime = rw c.u32_at.ensures at c.in_ok-show_lifetime.ensures in
    let others = cells_both _ _ _ _ _ _ (cells_both _ _ _ _ _ _ preference lifetime) c.in_ok-hidden_number.ensures in
    entry_printed _ _ _ _ _ _ _ _ _ tt label prefix others c.close_entry.ensures
