-- Each turn prints the next row.
use Rattle.std.proofs.Common.{◌<◌, arith, length, rules}
use Rattle.packet_fields.proofs.EntryChains.{entries_none}
use Rattle.packet_stats.proofs.RowEntries.{all_printed, next_printed}
use Rattle.packet_stats.proofs.show.show_rows.Goals as goal

pub loop-place-init : goal.loop-place-init
loop-place-init g c = entries_none _ _

pub loop-place-preserved : goal.loop-place-preserved
loop-place-preserved g c =
    let within : c.loop-place.place < length c.args.rows.now = search rules in
    next_printed c.args.form _ _ _ c.args.rows.now c.loop-place.place c.index-rows-place.result within
    c.index-rows-place.is c.loop-place.invariant c.in_ok-show_row.ensures

pub returns : goal.returns
returns g c = all_printed c.args.form _ _ c.args.rows.now c.loop-place.place (omega arith) c.loop-place.invariant
