-- The fields, and why there are no others.
use Rattle.packet_fields.proofs.Fields.{prints_last}
use Rattle.dhcp_fields.proofs.dhcp.show_cut.Goals as goal

pub returns : goal.returns
returns g c =
    prints_last _ _ c.show_unread.result c.in_ok-show_fixed.ensures
    (rw c.split_at.ensures.back at c.show_unread.ensures)
