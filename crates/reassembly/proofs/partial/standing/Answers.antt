-- The next fragment tells how this one stands to all, or is apart from it.
use Rattle.std.proofs.Common.{◌≡◌, ◌≢◌, arith, map, rules, subst}
use Rattle.std.proofs.lemmas.Grind.{common_steps}
use Rattle.reassembly.specs.Fragment.{value_of}
use Rattle.reassembly.specs.Piece.{Stands, piece_of}
use Rattle.reassembly.specs.Types.{Standing}
use Rattle.reassembly.proofs.Places.{drop_at_map, stands_here, stands_more}
use Rattle.reassembly.proofs.partial.standing.Goals as goal

pub returns-then-ne : goal.returns-then-ne
returns-then-ne c =
    let i = c.loop-piece.piece-index in
    let ps = map piece_of c.args.pieces.now in
    let other : c.standing-standing.result ≢ Standing.Apart = first_of (search rules, grind (arith, common_steps)) in
    stands_here (value_of c.args.fragment.now) ps ps i (piece_of c.piece-item.result) c.standing-standing.result
    (drop_at_map piece_of c.args.pieces.now i c.piece-item.result c.loop-piece-test.true c.piece-item.is)
    c.standing-standing.ensures other c.loop-piece.invariant

pub loop-piece-preserved : goal.loop-piece-preserved
loop-piece-preserved c =
    let i = c.loop-piece.piece-index in
    let ps = map piece_of c.args.pieces.now in
    let q = piece_of c.piece-item.result in
    let f = value_of c.args.fragment.now in
    let apart : c.standing-standing.result ≡ Standing.Apart = first_of (search rules, grind (arith, common_steps)) in
    stands_more f ps ps i q
    (drop_at_map piece_of c.args.pieces.now i c.piece-item.result c.loop-piece-test.true c.piece-item.is)
    (subst (λ s. Stands q f s) apart c.standing-standing.ensures) c.loop-piece.invariant
