-- Each turn prints one row more.
use Rattle.std.proofs.Common.{arith}
use Rattle.std.proofs.lemmas.List.{take_all}
use Rattle.dump_captures.specs.private.Parts.{no_count}
use Rattle.dump_captures.proofs.Summaries.{rows-more}
use Rattle.dump_captures.proofs.summary.write_rows.Goals as goal

pub loop-row-preserved : goal.loop-row-preserved
loop-row-preserved g c =
    let (first, gains) = c.loop-row.invariant in
    rows-more c.args.rows.now c.loop-row.row-index no_count c.loop-row.is_first _ _ _ c.loop-row-test.true first gains
    c.in_ok-write_row.ensures

pub returns : goal.returns
returns g c =
    rw (take_all c.loop-row.row-index c.args.rows.now (omega (arith, c.loop-row-test.false))) at c.loop-row.invariant
