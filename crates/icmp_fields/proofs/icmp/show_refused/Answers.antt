-- The octets, and why.
use Rattle.packet_fields.proofs.Fields.{prints_last}
use Rattle.icmp_fields.proofs.icmp.show_refused.Goals as goal

pub returns : goal.returns
returns g c =
    prints_last _ _ _ c.in_ok-show_behind_checksum.ensures c.field.ensures
