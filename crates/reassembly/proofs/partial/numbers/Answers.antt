-- One more number.
use Rattle.std.proofs.Common.{◌≡◌, ◌++◌, ◌∙◌, [], ◌∷◌, ap, arith, map, rules, take}
use Rattle.std.proofs.lemmas.Grind.{common_steps}
use Rattle.reassembly.specs.Piece.{numbers_of, piece_of}
use Rattle.reassembly.proofs.Places.{numbers_more, take_at_map}
use Rattle.reassembly.proofs.partial.numbers.Goals as goal

pub loop-piece-preserved : goal.loop-piece-preserved
loop-piece-preserved c =
    let i = c.loop-piece.piece-index in
    let ps = map piece_of c.args.pieces.now in
    let pushed : c.push.new.self.items ≡ c.loop-piece.numbers.items ++ (c.number.result ∷ []) =
    first_of (search rules, grind (arith, common_steps)) in
    pushed ∙ ap (λ l. l ++ (c.number.result ∷ [])) c.loop-piece.invariant
    ∙ ap (λ n. numbers_of (take i ps) ++ (n ∷ [])) c.number.ensures
    ∙ numbers_more ps i (piece_of c.piece-item.result)
    (take_at_map piece_of c.args.pieces.now i c.piece-item.result c.loop-piece-test.true c.piece-item.is)
