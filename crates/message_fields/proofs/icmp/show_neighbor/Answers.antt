-- The fields, and then why the message is refused.
use Rattle.std.proofs.Common.{refl}
use Rattle.packet_fields.proofs.Fields.{◌and◌}
use Rattle.message_fields.proofs.icmp.show_neighbor.Goals as goal

pub returns : goal.returns
returns g c =
    (_, (c.why_ndisc-told.ensures, refl), c.in_ok-show_ndisc.ensures and c.in_ok-show_unless_short.ensures)
