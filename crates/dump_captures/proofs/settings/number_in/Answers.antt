-- Digits alone have no sign before them.
use Rattle.std.proofs.Common.{◌≡◌, ◌∙◌, ◌<◌, ◌^◌, Err, List, Ok, Result, arith, false, length, refl, rules}
use Rattle.std.proofs.Common.{sym, true, ℕ}
use Rattle.std.proofs.lemmas.Str.Parse.{numerals_by_value, parse_digits, tells_all_ascii_digits}
use Rattle.std.specs.Prelude.{nat_lt, Bool, None, Some, if◌then◌else◌}
use Rattle.std.specs.Result.{OkIff, result_ok}
use Rattle.std.specs.Str.{all_ascii_digits}
use Rattle.std.specs.Str.Parse.{digits_value}
use Rattle.dump_captures.specs.Settings.{number_in}
use Rattle.dump_captures.proofs.settings.number_in.Goals as goal

not_so : (is : Bool) (number : ℕ) → (is ≡ true → ⊥) → None ≡ (if is then Some number else None)
not_so false number wrong = refl
not_so true number wrong = absurd (wrong refl)

number_is : {E : Type 0} (text : List ℕ) (r : Result ℕ E) → all_ascii_digits text ≡ true
    → OkIff r ((0 < length text) × (digits_value 10 text < 2 ^ 64)) (digits_value 10 text)
    → result_ok r ≡ number_in text
number_is text (Ok x) digits (holds, is) =
    let some : nat_lt 0 (length text) ≡ true = search rules in
    let fits : nat_lt (digits_value 10 text) (2 ^ 64) ≡ true = search rules in
    rw (digits, some, fits, is) refl
number_is text (Err e) digits none =
    not_so _ (digits_value 10 text) (λ holds. none (grind arith, grind arith))

pub returns : goal.returns
returns c =
    let digits = sym c.are_digits.ensures ∙ c.if-not-are_digits.false in
    let read = parse_digits (numerals_by_value (λ ds. all_ascii_digits ds ≡ true) tells_all_ascii_digits) 64
    c.args.text.now c.parse.result c.parse.ensures.value.0 (rw c.as_bytes.ensures.value at digits) in
    c.ok.ensures.value ∙ number_is c.args.text.now c.parse.result (rw c.as_bytes.ensures.value at digits) read
