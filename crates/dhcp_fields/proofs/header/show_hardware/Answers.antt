-- The fields, one after another.
use Rattle.packet_fields.proofs.Fields.{◌and◌, prints_last}
use Rattle.dhcp_fields.proofs.header.show_hardware.Goals as goal

pub returns : goal.returns
returns g c =
    prints_last _ _ c.field-2.result
    ((rw (c.operation.ensures, c.u8_at-op.ensures) at c.in_ok-named.ensures)
    and (rw (c.hardware_name.ensures, c.u8_at-htype.ensures) at c.in_ok-named-2.ensures)
    and (rw c.u8_at.ensures at c.in_ok-field.ensures))
    (rw c.u8_at-2.ensures at c.field-2.ensures)
