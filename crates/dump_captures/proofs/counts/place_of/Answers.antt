-- Each turn looks at one more row.
use Rattle.std.proofs.Common.{◌∙◌, add-one, sym}
use Rattle.dump_captures.proofs.Countings.{missing_more}
use Rattle.dump_captures.proofs.counts.place_of.Goals as goal

pub loop-place-preserved : goal.loop-place-preserved
loop-place-preserved c =
    rw (add-one c.loop-place.place)
    (missing_more c.args.category c.args.rows.now c.loop-place.place c.loop-place-test.true c.loop-place.invariant
    (sym c.is.ensures ∙ c.if-is.false))
