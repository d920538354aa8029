-- Some bytes were taken.
use Rattle.capture.proofs.Reading.{SoFar}
use Rattle.capture.proofs.reader.read_onto.Given as goal

abbrev pub invariant-parts : goal.invariant-parts
invariant-parts g l =
    SoFar (g.R.Read.remaining l.initial.input) (g.R.Read.remaining l.input) l.initial.octets.items
    l.octets.items l.count
