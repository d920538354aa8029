-- The octets of one more fragment.
use Rattle.std.proofs.Common.{◌≡◌, ◌++◌, ◌∙◌, ap, arith, map, rules, take}
use Rattle.std.proofs.lemmas.Grind.{common_steps}
use Rattle.reassembly.specs.Piece.{payload_of, piece_of}
use Rattle.reassembly.proofs.Places.{payload_more, take_at_map}
use Rattle.reassembly.proofs.partial.payload.Goals as goal

pub loop-piece-preserved : goal.loop-piece-preserved
loop-piece-preserved c =
    let i = c.loop-piece.piece-index in
    let ps = map piece_of c.args.pieces.now in
    let more : c.extend_from_slice.new.self.items ≡ c.loop-piece.payload.items ++ c.octets.result.now =
    first_of (search rules, grind (arith, common_steps)) in
    more ∙ ap (λ l. l ++ c.octets.result.now) c.loop-piece.invariant
    ∙ ap (λ l. payload_of (take i ps) ++ l) c.octets.ensures
    ∙ payload_more ps i (piece_of c.piece-item.result)
    (take_at_map piece_of c.args.pieces.now i c.piece-item.result c.loop-piece-test.true c.piece-item.is)
