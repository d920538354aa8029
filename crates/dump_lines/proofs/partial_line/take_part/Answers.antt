-- What was shown is consumed up to the end of the part.
use Rattle.std.proofs.Common.{subst}
use Rattle.std.specs.Io.BufRead.{FillKeeps}
use Rattle.std.proofs.BufReadLemmas.{Consumes_shown}
use Rattle.dump_lines.proofs.partial_line.take_part.Goals as goal

pub returns-clause-takes : goal.returns-clause-takes
returns-clause-takes g c =
    let rested = c.fill_buf.follows.lender-at-none in
    let filled =
    subst (FillKeeps _ (g.R.Read.remaining rested) (g.R.BufRead.consumable_len rested))
    c.in-Ok.is c.fill_buf.follows.holds-at-none in
    let moved =
    Consumes_shown _ _ _ _ c.in-Ok.available.now _ c.in_ok-count.ensures.bound c.in-Ok.ensures.front
    c.in-Ok.ensures.end filled.0 filled.1 c.consume.ensures.bytes in
    c.in_ok-count.ensures.takes _ _ moved.0 moved.1
