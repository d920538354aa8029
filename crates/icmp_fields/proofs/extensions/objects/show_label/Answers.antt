-- The label, its fields, the class and the end.
use Rattle.std.proofs.Common.{◌<◌, ◌^◌, rules}
use Rattle.packet_fields.proofs.Fields.{cells_both}
use Rattle.packet_fields.proofs.EntryChains.{entry_printed}
use Rattle.icmp_fields.proofs.extensions.objects.show_label.Goals as goal

pub returns : goal.returns
returns g c =
    let fits : c.args.label.label < 2 ^ 64 = search rules in
    let two = cells_both _ _ _ _ _ _ c.in_ok-keyed_cell.ensures c.in_ok-keyed_cell-2.ensures in
    let three = cells_both _ _ _ _ _ _ two c.in_ok-keyed_cell-3.ensures in
    let four = cells_both _ _ _ _ _ _ three c.in_ok-hidden_number.ensures in
    let others = cells_both _ _ _ _ _ _ four c.in_ok-hidden_number-2.ensures in
    entry_printed _ _ _ _ _ _ _ _ _ fits c.in_ok-open_entry.ensures c.in_ok-first_cell.ensures others
    c.close_entry.ensures
