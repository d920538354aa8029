-- Each turn adds the packets of one reason more.
use Rattle.std.proofs.Common.{arith}
use Rattle.dump_captures.specs.Kinds.{reasons}
use Rattle.dump_captures.specs.Summary.{refused_for, refused_in}
use Rattle.dump_captures.specs.Tally.{tally_of}
use Rattle.dump_captures.specs.declared.kind.Reason.TheVariants.{Cut}
use Rattle.dump_captures.proofs.Summaries.{sum_more, sum_all}
use Rattle.dump_captures.proofs.summary.all_refused.Goals as goal

pub loop-reason-preserved : goal.loop-reason-preserved
loop-reason-preserved c =
    let added = rw c.refused.ensures at c.saturating_add-count.ensures in
    sum_more (refused_for (tally_of c.args.tally.now)) reasons c.loop-reason.reason-index Cut
    c.loop-reason.count c.saturating_add-count.result c.loop-reason-test.true c.loop-reason.invariant added

pub returns : goal.returns
unfolding refused_in
returns c =
    sum_all (refused_for (tally_of c.args.tally.now)) reasons c.loop-reason.reason-index c.loop-reason.count
    (omega (arith, c.loop-reason-test.false)) c.loop-reason.invariant
