-- The value, its name where it has one, and the number.
use Rattle.packet_fields.proofs.Fields.{cells_both}
use Rattle.packet_fields.proofs.EntryChains.{entry_printed}
use Rattle.dhcp_fields.proofs.options.show_value.Goals as goal

pub returns : goal.returns
returns g c =
    let value = rw c.value-value.ensures at c.in_ok-show_content.ensures.text in
    let fits = rw c.value-value.ensures at c.show_content.ensures.fits in
    let name = rw c.value-value.ensures at c.in_ok-show_value_name.ensures in
    entry_printed _ _ _ _ _ _ _ _ c.close_entry.result fits c.in_ok-open_entry.ensures value
    (cells_both _ _ _ _ _ _ name c.in_ok-hidden_number.ensures) c.close_entry.ensures
