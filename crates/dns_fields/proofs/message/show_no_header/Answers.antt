use Rattle.packet_fields.proofs.Fields.{prints_last}
use Rattle.dns_fields.proofs.message.show_no_header.Goals as goal

pub returns : goal.returns
returns g c = prints_last _ _ c.field-2.result c.in_ok-field.ensures c.field-2.ensures
