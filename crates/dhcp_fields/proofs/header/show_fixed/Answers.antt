-- The fields, one after another.
use Rattle.packet_fields.proofs.Fields.{◌and◌, prints_last}
use Rattle.dhcp_fields.proofs.header.show_fixed.Goals as goal

pub returns : goal.returns
returns g c =
    prints_last _ _ c.show_client.result
    (c.in_ok-show_hardware.ensures and c.in_ok-show_exchange.ensures and c.in_ok-show_addresses.ensures)
    c.show_client.ensures
