-- The fields, one after another.
use Rattle.packet_fields.proofs.Fields.{◌and◌, prints_last}
use Rattle.dhcp_fields.proofs.header.show_exchange.Goals as goal

pub returns : goal.returns
returns g c =
    prints_last _ _ c.show_flags.result
    ((rw c.u32_at.ensures at c.in_ok-field.ensures) and (rw c.u16_at.ensures at c.in_ok-field-2.ensures))
    (rw c.u16_at-2.ensures at c.show_flags.ensures)
