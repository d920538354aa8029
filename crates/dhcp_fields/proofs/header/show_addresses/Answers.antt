-- The addresses, one after another.
use Rattle.packet_fields.proofs.Fields.{◌and◌, prints_last}
use Rattle.dhcp_fields.proofs.header.show_addresses.Goals as goal

pub returns : goal.returns
returns g c =
    prints_last _ _ c.show_address-4.result
    ((rw c.field.ensures.value at c.in_ok-show_address.ensures)
    and (rw c.field-2.ensures.value at c.in_ok-show_address-2.ensures)
    and (rw c.field-3.ensures.value at c.in_ok-show_address-3.ensures))
    (rw c.field-4.ensures.value at c.show_address-4.ensures)
