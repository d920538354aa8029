-- The fragment's place is before the next one, or behind it.
use Rattle.std.proofs.Common.{arith, map}
use Rattle.reassembly.specs.Fragment.{value_of}
use Rattle.reassembly.specs.Piece.{piece_in, piece_of}
use Rattle.reassembly.proofs.Places.{drop_at_map, placed_here, placed_more, take_at_map}
use Rattle.reassembly.proofs.partial.place_of.Goals as goal

pub returns-then-frag_offset-fragment-clause-placed : goal.returns-then-frag_offset-fragment-clause-placed
returns-then-frag_offset-fragment-clause-placed c number =
    placed_here (piece_in number (value_of c.args.fragment.now)) (piece_of c.index-pieces-i.result)
    (map piece_of c.args.pieces.now) c.loop-i.i
    (drop_at_map piece_of c.args.pieces.now c.loop-i.i c.index-pieces-i.result c.loop-i-test.true c.index-pieces-i.is)
    (omega (arith, c.frag_offset.ensures, c.if-frag_offset-fragment.true)) (c.loop-i.invariant number)

pub loop-i-preserved : goal.loop-i-preserved
loop-i-preserved c number =
    placed_more (piece_in number (value_of c.args.fragment.now)) (piece_of c.index-pieces-i.result)
    (map piece_of c.args.pieces.now) c.loop-i.i
    (drop_at_map piece_of c.args.pieces.now c.loop-i.i c.index-pieces-i.result c.loop-i-test.true c.index-pieces-i.is)
    (take_at_map piece_of c.args.pieces.now c.loop-i.i c.index-pieces-i.result c.loop-i-test.true c.index-pieces-i.is)
    (omega (arith, c.frag_offset.ensures, c.if-frag_offset-fragment.false)) (c.loop-i.invariant number)
