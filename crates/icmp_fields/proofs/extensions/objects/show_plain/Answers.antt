-- The label, the octets, the class, the C-Type, why it is refused and the end.
use Rattle.packet_fields.proofs.Fields.{cells_both}
use Rattle.packet_fields.proofs.EntryChains.{entry_printed}
use Rattle.icmp_fields.proofs.extensions.objects.show_plain.Goals as goal

pub returns : goal.returns
returns g c =
    let label = rw c.label_of.ensures at c.in_ok-open_entry.ensures in
    let two = cells_both _ _ _ _ _ _ c.in_ok-hidden_number.ensures c.in_ok-keyed_cell.ensures in
    let others = cells_both _ _ _ _ _ _ two c.in_ok-show_why.ensures in
    entry_printed _ _ _ _ _ _ _ _ _ tt label c.in_ok-first_cell.ensures others c.close_entry.ensures
