-- The fields, one after another.
use Rattle.packet_fields.proofs.Fields.{◌and◌, prints_last}
use Rattle.icmp_fields.proofs.icmp.show_echo.Goals as goal

pub returns : goal.returns
returns g c =
    prints_last _ _ _ (c.in_ok-field.ensures and c.in_ok-field-2.ensures) c.field-3.ensures
