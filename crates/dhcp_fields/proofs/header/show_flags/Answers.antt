use Rattle.packet_fields.proofs.Fields.{prints_last}
use Rattle.dhcp_fields.proofs.header.show_flags.Goals as goal

pub returns : goal.returns
returns g c = prints_last _ _ c.show_reserved.result c.in_ok-field.ensures c.show_reserved.ensures
