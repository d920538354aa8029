-- The row at the place is changed.
use Rattle.dump_captures.specs.Counts.{one_more_in}
use Rattle.dump_captures.specs.private.Parts.{no_count}
use Rattle.dump_captures.proofs.Tallies.{changed_at-set}
use Rattle.dump_captures.proofs.counts.add_at.Goals as goal

pub returns : goal.returns
returns c =
    rw c.saturating_add.ensures (changed_at-set c.args.rows.now c.args.place one_more_in no_count c.requires)
