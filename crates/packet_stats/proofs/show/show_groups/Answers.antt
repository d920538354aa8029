-- Members and sources.
use Rattle.packet_fields.proofs.Fields.{prints_last}
use Rattle.packet_stats.proofs.show.show_groups.Goals as goal

pub returns : goal.returns
returns g c = prints_last _ _ _ c.in_ok-show_table.ensures c.show_table-2.ensures
