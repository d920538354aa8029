-- The resolution tells which power it is.
use Rattle.std.proofs.Common.{lt-ltb, le-ltb}
use Rattle.capture.specs.Time.{units}
use Rattle.capture.proofs.time.nanoseconds.Goals as goal

pub returns-then-resolution-lt128-clause-value : goal.returns-then-resolution-lt128-clause-value
unfolding units
returns-then-resolution-lt128-clause-value c = rw (lt-ltb _ _ c.if-resolution-lt128.true) c.divided.ensures

pub returns-else-resolution-lt128-clause-value : goal.returns-else-resolution-lt128-clause-value
unfolding units
returns-else-resolution-lt128-clause-value c =
    rw (le-ltb _ _ c.if-resolution-lt128.false) c.divided-else-resolution-lt128.ensures
