use Rattle.record_wire.proofs.Words.{◌≡◌, [], ◌∷◌, IsAscii, List, ℕ, refl, subst, sym}
use Rattle.record_wire.proofs.FieldTexts.{four, four_ascii}
use Rattle.record_wire.proofs.text.words.put_digits.Goals as goal

pub put-requires : goal.put-requires
put-requires g c =
    let text : List ℕ = c.digit.result ∷ c.digit-2.result ∷ c.digit-3.result ∷ c.digit-4.result ∷ [] in
    let is : text ≡ four c.args.a c.args.b c.args.c c.args.d =
    rw (c.digit.ensures, c.digit-2.ensures, c.digit-3.ensures, c.digit-4.ensures) refl in
    subst IsAscii (sym is) (four_ascii c.args.a c.args.b c.args.c c.args.d)
