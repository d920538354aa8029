-- The next fragment begins where the one before it ends, or the fragments do not tile.
use Rattle.std.proofs.Common.{◌≡◌, ◌∙◌, arith, false, map, rules, true}
use Rattle.std.proofs.lemmas.Grind.{common_steps}
use Rattle.reassembly.specs.Piece.{piece_of}
use Rattle.reassembly.proofs.Places.{drop_at_map, tiles_here, tiles_more}
use Rattle.reassembly.proofs.partial.is_whole.Goals as goal
use Rattle.reassembly.proofs.partial.is_whole.Goals.{then-not-more-via-then-not-more}
use Rattle.reassembly.proofs.partial.is_whole.Goals.{then-not-more-via-else-not-more+then-frag_offset-end}

pub returns-then-not-more : goal.returns-then-not-more
returns-then-not-more c =
    let i = c.loop-piece.piece-index in
    let ps = map piece_of c.args.pieces.now in
    let split =
    drop_at_map piece_of c.args.pieces.now i c.piece-item.result c.loop-piece-test.true c.piece-item.is in
    elim c.then-not-more.branch [
      | then-not-more-via-then-not-more w ↦ (
        λ x. let e : false ≡ true = x in cc,
        λ t.
            let k =
            tiles_here _ _ ps ps i (piece_of c.piece-item.result) split c.loop-piece.invariant t in
            let e : c.loop-piece.more ≡ true = k.0 in
            let n = w.if-not-more.true in cc,
      )
      | then-not-more-via-else-not-more+then-frag_offset-end w ↦ (
        λ x. let e : false ≡ true = x in cc,
        λ t.
            let k =
            tiles_here _ _ ps ps i (piece_of c.piece-item.result) split c.loop-piece.invariant t in
            absurd (w.if-frag_offset-end.true (w.frag_offset.ensures ∙ k.1)),
      )
    ]

pub loop-piece-preserved : goal.loop-piece-preserved
loop-piece-preserved c =
    let i = c.loop-piece.piece-index in
    let ps = map piece_of c.args.pieces.now in
    let goes : c.loop-piece.more ≡ true = first_of (search rules, grind (arith, common_steps)) in
    tiles_more _ _ _ _ ps ps i (piece_of c.piece-item.result)
    (drop_at_map piece_of c.args.pieces.now i c.piece-item.result c.loop-piece-test.true c.piece-item.is) goes
    (omega (arith, c.frag_offset.ensures, c.if-frag_offset-end.false)) c.more_frags-more.ensures c.end-end.ensures
    c.loop-piece.invariant
