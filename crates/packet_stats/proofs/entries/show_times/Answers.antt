-- The number of times, two percentiles, and the times that are not kept.
use Rattle.packet_fields.proofs.EntryChains.{cells_last}
use Rattle.packet_fields.proofs.Fields.{cells_both}
use Rattle.packet_stats.proofs.entries.show_times.Goals as goal

pub returns : goal.returns
returns g c =
    let count = rw c.times.ensures at c.in_ok-show_some.ensures in
    let median = rw c.percentile.ensures at c.in_ok-show_time.ensures in
    let percentile_99 = rw c.percentile-2.ensures at c.in_ok-show_time-2.ensures in
    cells_last _ _ _
    (cells_both _ _ _ _ _ _ (cells_both _ _ _ _ _ _ count median) percentile_99) c.show_some-2.ensures
