-- The rows, and how many messages have none.
use Rattle.packet_fields.proofs.Fields.{prints_last}
use Rattle.packet_stats.proofs.show.show_table.Goals as goal

pub returns : goal.returns
returns g c =
    let rows = rw c.deref.ensures.value at c.in_ok-show_list.ensures in
    prints_last _ _ _ rows c.show_overlooked.ensures
