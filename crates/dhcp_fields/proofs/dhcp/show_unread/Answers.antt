use Rattle.packet_fields.proofs.Fields.{prints_last}
use Rattle.dhcp_fields.proofs.dhcp.show_unread.Goals as goal

pub returns : goal.returns
returns g c = prints_last _ _ c.field.result c.in_ok-show_refused.ensures c.field.ensures
