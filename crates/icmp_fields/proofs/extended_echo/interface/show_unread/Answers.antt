-- The octets, and why.
use Rattle.packet_fields.proofs.Fields.{prints_last}
use Rattle.icmp_fields.proofs.extended_echo.interface.show_unread.Goals as goal

pub returns : goal.returns
returns g c =
    prints_last _ _ _ c.in_ok-field.ensures c.field-2.ensures
