-- The table, compared in all its entries.
use Rattle.wirebase.proofs.Words.{◌≡◌, ◌+◌, ◌*◌, ◌/◌, ◌%◌, ◌<◌, [], ◌∷◌, ◌∙◌, ◌==◌, ℕ, agree_below_at, ap, arith}
use Rattle.wirebase.proofs.Words.{eqb-true, get_or, refl, true}
use Rattle.wirebase.specs.declared.text.number.TheConstants.{TWO_DIGITS}
use Rattle.wirebase.proofs.text.number.two_digits.Goals as goal

tens : (n : ℕ) → n < 100 → get_or TWO_DIGITS.now (2 * n) 0 ≡ 48 + n / 10
tens n within =
    eqb-true _ _
    (agree_below_at (λ n. get_or TWO_DIGITS.now (2 * n) 0 == 48 + n / 10) (λ n. true) 100 n refl within)

ones : (n : ℕ) → n < 100 → get_or TWO_DIGITS.now (2 * n + 1) 0 ≡ 48 + n % 10
ones n within =
    eqb-true _ _
    (agree_below_at (λ n. get_or TWO_DIGITS.now (2 * n + 1) 0 == 48 + n % 10) (λ n. true) 100 n refl within)

pub returns : goal.returns
returns c =
    let n = c.args.number in
    let ten : n % 100 / 10 ≡ n / 10 % 10 = omega arith in
    let one : n % 100 % 10 ≡ n % 10 = omega arith in
    let first = tens (n % 100) (omega arith) ∙ ap (λ d. 48 + d) ten in
    let second = ones (n % 100) (omega arith) ∙ ap (λ d. 48 + d) one in
    ap (λ x. x ∷ get_or TWO_DIGITS.now (2 * (n % 100) + 1) 0 ∷ []) first
    ∙ ap (λ x. (48 + n / 10 % 10) ∷ x ∷ []) second
