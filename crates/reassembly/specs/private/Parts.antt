-- What a fragment does to its datagram, by content.
use Rattle.reassembly.specs.Partial.{TakenValue, kept, refused, whole, whole_of}
use Rattle.reassembly.specs.Types.{Taken}

abbrev pub taken_of : Taken → TakenValue
taken_of Taken.Kept = kept
taken_of (Taken.Whole w) = whole (whole_of w)
taken_of (Taken.Refused refusal) = refused refusal
