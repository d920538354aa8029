-- A table for each kind of subjects.
use Rattle.packet_fields.proofs.Fields.{◌and◌, prints_last}
use Rattle.packet_stats.proofs.show.show_page.Goals as goal

pub returns : goal.returns
returns g c =
    prints_last _ _ _ (c.in_ok-show_dns.ensures and c.in_ok-show_dhcp.ensures and c.in_ok-show_groups.ensures)
    c.show_neighbors.ensures
