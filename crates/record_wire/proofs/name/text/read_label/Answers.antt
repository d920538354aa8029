use Rattle.record_wire.proofs.Words.{◌≡◌, ◌<◌, [], ◌∷◌, ◌++◌, Spells, ap, arith, length, length-append, rules, subst}
use Rattle.record_wire.proofs.Words.{sym}
use Rattle.record_wire.proofs.Spelling.{spells_more, spelling_one, spelling_longer}
use Rattle.record_wire.proofs.name.text.read_label.Goals as goal

pub loop-byte-preserved : goal.loop-byte-preserved
loop-byte-preserved c =
    let more = spells_more c.loop-byte.label.items c.args.text.now c.loop-byte.left.now c.in-Some.byte
    c.in-Some.rest.now c.loop-byte.invariant.spells (sym c.in-Some.ensures) in
    let pushed : c.try_push.new.self.items ≡ c.loop-byte.label.items ++ c.in-Some.byte ∷ [] = search rules in
    let room : length c.loop-byte.label.items < 63 = search rules in
    record {
      spells = subst (λ label. Spells c.args.text.now label c.in-Some.rest.now) (sym pushed) more;
      few = omega (arith, ap length pushed, room, length-append c.loop-byte.label.items (c.in-Some.byte ∷ []));
    }

pub returns-then-is_err-clause-complete : goal.returns-then-is_err-clause-complete
returns-then-is_err-clause-complete c = λ label rest spelling some few.
    let longer = spelling_longer c.loop-byte.label.items label c.args.text.now c.loop-byte.left.now c.in-Some.byte
    c.in-Some.rest.now rest c.loop-byte.invariant.spells (sym c.in-Some.ensures) spelling.spells spelling.no_more in
    let full : length c.loop-byte.label.items ≡ 63 = search rules in
    absurd (omega (arith, longer, full, few))

pub returns-then-is_empty-clause-complete : goal.returns-then-is_empty-clause-complete
returns-then-is_empty-clause-complete c = λ label rest spelling some few.
    let one = spelling_one c.loop-byte.label.items label c.args.text.now c.loop-byte.left.now rest
    c.loop-byte.invariant.spells (sym c.in_default.ensures) spelling.spells spelling.no_more in
    let empty : length c.loop-byte.label.items ≡ 0 = search rules in
    absurd (omega (arith, some, ap length one.0, empty))
