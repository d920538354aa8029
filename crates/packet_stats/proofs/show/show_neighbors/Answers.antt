-- Neighbors, routers and prefixes.
use Rattle.packet_fields.proofs.Fields.{◌and◌, prints_last}
use Rattle.packet_stats.proofs.show.show_neighbors.Goals as goal

pub returns : goal.returns
returns g c =
    prints_last _ _ _ (c.in_ok-show_table.ensures and c.in_ok-show_table-2.ensures) c.show_table-3.ensures
