use Rattle.record_wire.proofs.Words.{AreThree, List, ℕ, subst, sym, take_rest}
use Rattle.record_wire.proofs.rdata.fields.split_rule.Goals as goal

pub returns-in_err-strings-clause-complete : goal.returns-in_err-strings-clause-complete
returns-in_err-strings-clause-complete c = λ value rest is.
    absurd (c.in_err-strings.ensures.complete is.strings rest
    (subst (λ (bytes : List ℕ). AreThree bytes is.strings rest) (sym (take_rest c.args.octets.now 4)) is.three))

pub returns-clause-complete : goal.returns-clause-complete
returns-clause-complete c = λ value rest is.
    let same = c.in_ok-strings.ensures.complete is.strings rest
    (subst (λ (bytes : List ℕ). AreThree bytes is.strings rest) (sym (take_rest c.args.octets.now 4)) is.three) in
    (rw (c.u16_at.ensures, c.u16_at-2.ensures, same.0) (sym is.is), same.1)
