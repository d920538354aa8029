-- The fragment's place is behind the first ones.
use Rattle.std.proofs.Common.{ℕ, map}
use Rattle.reassembly.specs.Fragment.{value_of}
use Rattle.reassembly.specs.Piece.{piece_in, piece_of}
use Rattle.reassembly.proofs.Places.{PlacedLater}
use Rattle.reassembly.proofs.partial.place_of.Given as goal

abbrev pub invariant-loop-i : goal.invariant-loop-i
invariant-loop-i l =
    (number : ℕ) → PlacedLater (piece_in number (value_of l.fragment)) (map piece_of l.pieces) l.i
