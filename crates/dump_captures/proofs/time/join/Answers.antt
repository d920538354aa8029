-- The date first, and the time after it.
use Rattle.std.proofs.Common.{refl}
use Rattle.dump_captures.proofs.Times.{joined}
use Rattle.dump_captures.proofs.time.join.Goals as goal

pub returns : goal.returns
returns c =
    rw (c.copy_from_slice.ensures.after, c.copy_from_slice-2.ensures.after)
    (joined c.args.date.now c.args.time.now _ c.told-date c.told-time refl)
