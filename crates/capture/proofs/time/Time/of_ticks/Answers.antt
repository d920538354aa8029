-- A unit of these resolutions is a whole number of nanoseconds.
use Rattle.std.proofs.Common.{◌≡◌, ℕ, ◌*◌, subst, arith}
use Rattle.capture.specs.Time.{IsTime, nanoseconds_of, units}
use Rattle.capture.proofs.time.Time.of_ticks.Goals as goal

micros : (ticks : ℕ) → ticks * 1000 ≡ nanoseconds_of 6 ticks
unfolding units
micros ticks = omega arith

nanos : (ticks : ℕ) → ticks ≡ nanoseconds_of 9 ticks
unfolding units
nanos ticks = omega arith

pub returns-in-6 : goal.returns-in-6
returns-in-6 c =
    rw c.in-6.is (subst (λ n. IsTime c.of_micros.result n 6) (micros c.args.ticks) c.of_micros.ensures)

pub returns-in-9 : goal.returns-in-9
returns-in-9 c =
    rw c.in-9.is (subst (λ n. IsTime c.of_nanos_u64.result n 9) (nanos c.args.ticks) c.of_nanos_u64.ensures)
