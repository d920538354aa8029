-- Digits are ASCII, and what was put was written.
use Rattle.std.proofs.Common.{◌≡◌, ◌∙◌, ◌++◌, IsOk, ap, take, codes, rules, ne_eqb}
use Rattle.std.proofs.lemmas.Grind.{put_two}
use Rattle.wirebase.specs.Digits.{last_digits}
use Rattle.wirebase.proofs.Sinks.{displayed}
use Rattle.capture.proofs.time.text.FractionDisplay.fmt.Goals as goal

pub returns-clause-writes : goal.returns-clause-writes
returns-clause-writes g c = λ plain ok.
    let time = c.args.self.now in
    let text : c.first_digits.result.now ≡ take time.digits (last_digits 9 time.nanoseconds)
    = c.first_digits.ensures ∙ ap (take time.digits) (c.nine_digits-all.ensures ∙ ap (last_digits 9) c.from.ensures) in
    let fine : IsOk c.write_str.result = search rules in
    let point = c.write_str.ensures.writes plain fine in
    let digits = displayed g.W.Write.write_str_gives _ _ _ _ c.put.ensures point.plain ok in
    put_two _ _ _ _ _ _ _ point digits
    (rw (ne_eqb time.digits 0 c.if-self-eq0.false) (ap (λ t. codes "." ++ t) text))
