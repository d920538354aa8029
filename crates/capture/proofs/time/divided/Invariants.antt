-- This many divisions are done.
use Rattle.std.proofs.Common.{◌≡◌, ◌/◌, ◌^◌}
use Rattle.capture.proofs.time.divided.Given as goal

abbrev pub invariant-loop : goal.invariant-loop
invariant-loop l = l.quotient ≡ l.number / l.base ^ l.counter
