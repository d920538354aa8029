-- The fields, the names, and why there are no options.
use Rattle.packet_fields.proofs.Fields.{◌and◌, prints_last}
use Rattle.dhcp_fields.proofs.dhcp.show_bare.Goals as goal

pub returns : goal.returns
returns g c =
    prints_last _ _ c.show_unread.result (c.in_ok-show_fixed.ensures and c.in_ok-show_names.ensures)
    (rw c.split_at.ensures.back at c.show_unread.ensures)
