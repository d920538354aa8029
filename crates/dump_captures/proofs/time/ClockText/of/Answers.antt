-- Digits, and what stands between them.
use Rattle.dump_captures.proofs.Times.{milliseconds_ascii}
use Rattle.dump_captures.proofs.time.ClockText.of.Goals as goal

pub invariant_of-result : goal.invariant_of-result
invariant_of-result c =
    record { ascii = milliseconds_ascii c.args.seconds c.args.nanoseconds _ c.clock_octets.ensures }
