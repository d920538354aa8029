use Rattle.dhcp_fields.proofs.header.show_client.Goals as goal

pub returns : goal.returns
returns g c = rw c.hardware_address.ensures at c.field.ensures
