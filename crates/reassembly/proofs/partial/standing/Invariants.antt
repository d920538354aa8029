-- The fragment is apart from the first ones.
use Rattle.std.proofs.Common.{drop, map}
use Rattle.reassembly.specs.Fragment.{value_of}
use Rattle.reassembly.specs.Piece.{piece_of}
use Rattle.reassembly.proofs.Places.{StandsLater}
use Rattle.reassembly.proofs.partial.standing.Given as goal

abbrev pub invariant-loop-piece : goal.invariant-loop-piece
invariant-loop-piece l =
    StandsLater (value_of l.fragment) (map piece_of l.pieces) (drop l.piece-index (map piece_of l.pieces))
