-- An option tells the value, or those after it do.
use Rattle.std.proofs.Common.{◌≡◌, ◌⊎◌, inl, inr, ℕ, arith, refl, length-drop}
use Rattle.wirebase.specs.Bytes.{part}
use Rattle.capture.specs.Pcapng.{here, option_end}
use Rattle.capture.proofs.Blocks.{option_of, tells_behind}
use Rattle.capture.proofs.pcapng.first_option.Goals as goal

differs : (a b m n : ℕ) → ((a ≡ b) × (m ≡ n → ⊥)) ⊎ (a ≡ b → ⊥) → (a ≡ b) × (m ≡ n) → ⊥
differs a b m n (inl h) both = h.1 both.1
differs a b m n (inr h) both = h both.0

pub returns-then-rest_len-len-clause-tells : goal.returns-then-rest_len-len-clause-tells
unfolding part
returns-then-rest_len-len-clause-tells c =
    let is =
    option_of c.args.order c.args.code c.args.len c.options.rest.now _ _ c.options-test.true c.u16_at-rest_code.ensures
    c.u16_at-rest_len.ensures c.if-rest-end.false in
    (c.options.invariant _).0 (here (rw (c.if-rest_code-code.true, c.if-rest_len-len.true) at is) refl)

pub options-preserved : goal.options-preserved
options-preserved c value =
    let is =
    option_of c.args.order c.args.code c.args.len c.options.rest.now _ _ c.options-test.true c.u16_at-rest_code.ensures
    c.u16_at-rest_len.ensures c.if-rest-end.false in
    let behind =
    tells_behind c.args.order c.args.code c.args.len _ value _ _ _ is c.if-rest_code-eq0.false
    (differs _ _ _ _ c.else-rest_code-code.either)
    (omega (arith, length-drop (option_end c.u16_at-rest_len.result) c.options.rest.now)) in (
      λ tells. (c.options.invariant value).0 (behind.0 tells),
      λ tells. behind.1 ((c.options.invariant value).1 tells),
    )
