-- The label, the role, the parts, the class, what is behind them and the end.
use Rattle.packet_fields.proofs.Fields.{cells_both}
use Rattle.packet_fields.proofs.EntryChains.{entry_printed}
use Rattle.icmp_fields.proofs.extensions.objects.show_information.Goals as goal

pub returns : goal.returns
returns g c =
    let role = rw c.role_name.ensures at c.in_ok-first_cell.ensures in
    let two = cells_both _ _ _ _ _ _ c.in_ok-show_parts.ensures c.in_ok-hidden_number.ensures in
    let three = cells_both _ _ _ _ _ _ two c.in_ok-hidden_number-2.ensures in
    let others = cells_both _ _ _ _ _ _ three c.in_ok-show_spare.ensures in
    entry_printed _ _ _ _ _ _ _ _ _ tt c.in_ok-open_entry.ensures role others c.close_entry.ensures
