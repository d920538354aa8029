-- The label, the value, its name, the type and the end.
use Rattle.std.proofs.Common.{◌∙◌, ◌<◌, ◌^◌, ap, rules}
use Rattle.packet_fields.specs.Fields.{leaf_or_missing, text}
use Rattle.packet_fields.proofs.EntryChains.{entry_printed, name_leaf}
use Rattle.packet_fields.proofs.Fields.{cells_both}
use Rattle.neighbor_fields.proofs.hop_by_hop.show_alert.Goals as goal

pub returns : goal.returns
returns g c =
    let value_is = c.u16_at-value.ensures in
    let fits : c.u16_at-value.result < 2 ^ 64 = search rules in
    let label = rw c.label_of.ensures.value at c.in_ok-open_entry.ensures in
    let value = rw value_is at c.in_ok-first_cell.ensures in
    let name_is = name_leaf c.alert_name.result ∙ ap (leaf_or_missing text) c.alert_name.ensures in
    let name = rw (name_is, value_is) at c.in_ok-keyed_cell.ensures in
    let others = cells_both _ _ _ _ _ _ name c.in_ok-hidden_number.ensures in
    entry_printed _ _ _ _ _ _ _ _ _ (rw value_is at fits) label value others c.close_entry.ensures
