-- Some bytes were passed over.
use Rattle.capture.proofs.Reading.{SkipsSoFar}
use Rattle.capture.proofs.reader.skip.Given as goal

abbrev pub invariant-parts : goal.invariant-parts
invariant-parts g l =
    SkipsSoFar (g.R.Read.remaining l.initial.input) (g.R.Read.remaining l.input) l.count l.missing
