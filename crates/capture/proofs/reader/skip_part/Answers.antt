-- What was shown is consumed, as far as it is wanted.
use Rattle.std.proofs.Common.{arith}
use Rattle.std.proofs.BufReadLemmas.{Consumes_shown}
use Rattle.capture.proofs.Reading.{skips-shown}
use Rattle.capture.proofs.reader.skip_part.Goals as goal

pub returns-then-count-missing-clause-part : goal.returns-then-count-missing-clause-part
returns-then-count-missing-clause-part g c =
    let kept = rw (c.in_ok-shown.was, c.in-Some.is) at c.look.follows.holds-at-none in
    let moved =
    Consumes_shown _ _ _ _ c.in-Some.shown.now c.min-count.result (omega (arith, c.min-count.ensures))
    (rw c.in-Some.is at c.in_ok-shown.ensures.front) (rw c.in-Some.is at c.in_ok-shown.ensures.end) kept.0 kept.1
    c.consume.ensures.bytes in
    skips-shown _ _ c.in-Some.shown.now _ _ _ c.min-count.ensures moved.0 moved.1
    (λ told short. absurd (omega (arith, c.if-count-missing.true, short)))
