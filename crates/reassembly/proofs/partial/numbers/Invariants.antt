-- The numbers of the first fragments are put together.
use Rattle.std.proofs.Common.{◌≡◌, map, take}
use Rattle.reassembly.specs.Piece.{numbers_of, piece_of}
use Rattle.reassembly.proofs.partial.numbers.Given as goal

abbrev pub invariant-loop-piece : goal.invariant-loop-piece
invariant-loop-piece l = l.numbers.items ≡ numbers_of (take l.piece-index (map piece_of l.pieces))
