use Rattle.opt_wire.proofs.Words.{◌<◌, ◌∙◌, ℕ, ap, arith, drop, eqb-false, eqb-true, inl, inr, length, sym, value_of}
use Rattle.std.proofs.lemmas.List.{take_rest}
use Rattle.wirebase.proofs.Answers.{answer-progress}
use Rattle.opt_wire.proofs.Ipv6OptionTiles.{next-option, next-refusal, next-end}
use Rattle.opt_wire.proofs.ipv6option.options.Ipv6OptionsIteratorIterator.next.Goals as goal

pub returns-then-self-clause-steps : goal.returns-then-self-clause-steps
returns-then-self-clause-steps c =
    let it = c.self.inside in
    let ended = sym c.self.view_is ∙ next-end it.hit_error it.data.now (elim c.then-self.branch [
      | goal.then-self-via-then-self w ↦ inl w.if-self.true
      | goal.then-self-via-else-self+then-is_empty w ↦
          inr (eqb-true (length it.data.now) 0 (sym w.is_empty.ensures ∙ w.if-is_empty.true))
    ]) in
    (ended, ended)

pub returns-in-Ok-clause-steps : goal.returns-in-Ok-clause-steps
returns-in-Ok-clause-steps c =
    let it = c.self.inside in
    let read = rw c.new_unchecked.ensures at c.in-Ok.ensures.sound in
    sym c.self.view_is
    ∙ next-option it.hit_error it.data.now _ _ c.if-self.false read
    (take_rest it.data.now c.buffer_len.result ∙ ap (λ (n : ℕ). drop n it.data.now) c.buffer_len.ensures.value)

pub returns-in-Ok-clause-goes : goal.returns-in-Ok-clause-goes
returns-in-Ok-clause-goes c = answer-progress value_of _ _ _ (returns-in-Ok-clause-steps c)

pub returns-in-Err-clause-steps : goal.returns-in-Err-clause-steps
returns-in-Err-clause-steps c =
    let it = c.self.inside in
    let none = rw c.new_unchecked.ensures at c.in-Err.ensures.complete in
    let some : 0 < length it.data.now =
    omega (arith, eqb-false (length it.data.now) 0 (sym c.is_empty.ensures ∙ c.if-is_empty.false)) in
    sym c.self.view_is
    ∙ next-refusal it.hit_error it.data.now c.in-Err.error c.if-self.false some none

pub returns-in-Err-clause-goes : goal.returns-in-Err-clause-goes
returns-in-Err-clause-goes c = answer-progress value_of _ _ _ (returns-in-Err-clause-steps c)
