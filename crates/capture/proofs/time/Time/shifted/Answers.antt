-- The sign gives the direction.
use Rattle.std.proofs.Common.{◌≡◌, ℕ, ◌+◌, ◌-◌, ◌*◌, ◌%◌, min, ℤ, pos, negsuc, int_lt, unsigned_abs, true, false}
use Rattle.std.proofs.Common.{ap, sym, subst, ◌∙◌, refl, arith, le-ltb, add-one}
use Rattle.std.proofs.lemmas.Int.{to_z-of_z}
use Rattle.std.specs.Int.{w64}
use Rattle.capture.specs.Time.{IsTime, moved}
use Rattle.capture.proofs.time.Time.shifted.Goals as goal

earlier : (z : ℤ) (n : ℕ) → int_lt z (pos 0) ≡ true → n - unsigned_abs z * 1000000000 ≡ moved z n
unfolding moved
earlier (pos m) n is = let none = le-ltb m 0 (omega arith) in let both : true ≡ false = sym is ∙ none in cc
earlier (negsuc m) n is = ap (λ k. n - k * 1000000000) (sym (add-one m))

later : (z : ℤ) (n : ℕ) → int_lt z (pos 0) ≡ false
    → min (n + unsigned_abs z * 1000000000) (18446744073709551615 * 1000000000 + n % 1000000000) ≡ moved z n
unfolding moved
later (pos m) n is = refl
later (negsuc m) n is = cc

pub returns-then-seconds-lt0 : goal.returns-then-seconds-lt0
returns-then-seconds-lt0 c =
    let n = c.args.self.seconds * 1000000000 + c.args.self.nanoseconds in
    let same = to_z-of_z w64 c.args.seconds c.ranges.seconds in
    subst (λ n. IsTime c.earlier.result n c.args.self.digits)
    (ap (λ s. n - s * 1000000000) (c.unsigned_abs.ensures.value ∙ ap unsigned_abs same)
    ∙ earlier c.args.seconds n (subst (λ z. int_lt z (pos 0) ≡ true) same c.if-seconds-lt0.true)) c.earlier.ensures

pub returns : goal.returns
returns c =
    let n = c.args.self.seconds * 1000000000 + c.args.self.nanoseconds in
    let same = to_z-of_z w64 c.args.seconds c.ranges.seconds in
    subst (λ n. IsTime c.later.result n c.args.self.digits)
    (ap (λ z. min (n + unsigned_abs z * 1000000000) (18446744073709551615 * 1000000000 + n % 1000000000)) same
    ∙ later c.args.seconds n (subst (λ z. int_lt z (pos 0) ≡ false) same c.if-seconds-lt0.false)) c.later.ensures
