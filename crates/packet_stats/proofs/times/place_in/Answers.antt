-- The first greater time, or the end.
use Rattle.std.proofs.Common.{arith, length}
use Rattle.packet_stats.proofs.Ascending.{goes_before}
use Rattle.packet_stats.proofs.times.place_in.Goals as goal

pub returns-then-time-kept-clause-place : goal.returns-then-time-kept-clause-place
returns-then-time-kept-clause-place c =
    goes_before c.args.time c.args.times.now c.loop-place.place (omega arith) c.loop-place.invariant
    (λ more. c.if-time-kept.true)

pub returns-clause-place : goal.returns-clause-place
returns-clause-place c =
    goes_before c.args.time c.args.times.now (length c.args.times.now) (omega arith)
    (λ k below. c.loop-place.invariant k (omega arith)) (λ more. absurd (omega arith))
