-- A fragment is put in its place.
use Rattle.std.proofs.Common.{◌≡◌, ◌<◌, ◌∙◌, ap, arith, false, length, map, refl, rules, sym, subst, true}
use Rattle.std.proofs.lemmas.Grind.{common_steps}
use Rattle.std.proofs.lemmas.List.{length-map}
use Rattle.std.specs.List.{insert}
use Rattle.reassembly.specs.Fragment.{value_of}
use Rattle.reassembly.specs.Partial.{completes, joined, keeps, partial_of, with_fragment}
use Rattle.reassembly.specs.Partial as partial
use Rattle.reassembly.specs.Piece.{Tiles, piece_in, piece_of, placed}
use Rattle.reassembly.proofs.Places.{inserted, told, told_not}
use Rattle.reassembly.proofs.partial.Partial.keep.Goals as goal

pub returns-then-not-is_whole-clause-takes : goal.returns-then-not-is_whole-clause-takes
returns-then-not-is_whole-clause-takes c =
    let items = c.args.self.now.pieces.items in
    let p = piece_in c.args.number (value_of c.args.fragment.now) in
    let few : length (map piece_of items) < 256 = omega (arith, length-map items piece_of, c.requires.room) in
    let put : c.insert.new.self.items ≡ insert items c.place_of-place.result c.in_ok-piece.piece =
    first_of (search rules, grind (arith, common_steps)) in
    let whole : c.is_whole.result ≡ false = first_of (search rules, grind (arith, common_steps)) in
    let new : map piece_of c.insert.new.self.items ≡ placed p (map piece_of items) =
    inserted items _ c.place_of-place.result c.in_ok-piece.piece p put c.in_ok-piece.ensures
    (subst (λ l. insert (map piece_of l) c.place_of-place.result p ≡ placed p (map piece_of l)) c.as_slice.ensures.value
    (c.place_of-place.ensures.placed c.args.number)) in
    keeps c.requires.taken c.requires.apart few
    (λ t. told_not c.is_whole.result (Tiles (map piece_of c.as_slice-2.result.now)) c.is_whole.ensures whole
    (subst (λ l. Tiles (map piece_of l)) (sym c.as_slice-2.ensures.value) (subst Tiles (sym new) t))) refl
    (ap (λ ps. record { key = c.args.self.now.key; discarded = c.args.self.now.discarded; pieces = ps }) new)

pub returns-in-Ok-clause-takes : goal.returns-in-Ok-clause-takes
returns-in-Ok-clause-takes c =
    let items = c.args.self.now.pieces.items in
    let p = piece_in c.args.number (value_of c.args.fragment.now) in
    let few : length (map piece_of items) < 256 = omega (arith, length-map items piece_of, c.requires.room) in
    let put : c.insert.new.self.items ≡ insert items c.place_of-place.result c.in_ok-piece.piece =
    first_of (search rules, grind (arith, common_steps)) in
    let whole : c.is_whole.result ≡ true = first_of (search rules, grind (arith, common_steps)) in
    let new : map piece_of c.insert.new.self.items ≡ placed p (map piece_of items) =
    inserted items _ c.place_of-place.result c.in_ok-piece.piece p put c.in_ok-piece.ensures
    (subst (λ l. insert (map piece_of l) c.place_of-place.result p ≡ placed p (map piece_of l)) c.as_slice.ensures.value
    (c.place_of-place.ensures.placed c.args.number)) in
    let changed : partial_of (record c.args.self.now { pieces = c.insert.new.self })
    ≡ with_fragment (partial_of c.args.self.now) c.args.number (value_of c.args.fragment.now) =
    ap (λ ps. record { key = c.args.self.now.key; discarded = c.args.self.now.discarded; pieces = ps }) new in
    completes c.requires.taken c.requires.apart few
    (subst Tiles new (subst (λ l. Tiles (map piece_of l)) c.as_slice-2.ensures.value
    (told c.is_whole.result (Tiles (map piece_of c.as_slice-2.result.now)) c.is_whole.ensures whole)))
    (ap partial.whole (c.in-Ok.ensures ∙ ap joined changed)) changed
