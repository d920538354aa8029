-- The first fragments tile the datagram up to a byte.
use Rattle.std.proofs.Common.{drop, map}
use Rattle.reassembly.specs.Piece.{piece_of}
use Rattle.reassembly.proofs.Places.{TilesLater}
use Rattle.reassembly.proofs.partial.is_whole.Given as goal

abbrev pub invariant-loop-piece : goal.invariant-loop-piece
invariant-loop-piece l =
    TilesLater l.more l.end (drop l.piece-index (map piece_of l.pieces)) (map piece_of l.pieces)
