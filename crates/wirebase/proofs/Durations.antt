-- A duration is its number of microseconds; one of whole milliseconds or seconds is determined by this number.
use Rattle.wirebase.proofs.Words.{◌≡◌, ◌*◌, ◌∙◌, ℕ, ap, arith, sym}
use Rattle.wirebase.specs.Duration.{micros_of, of_micros, millis_of, seconds_of, whole_seconds}
use Rattle.wirebase.specs.private.Parts.{whole_millis}
use Rattle.wirebase.specs.declared.duration.Duration.{Duration}

pub same_duration : (d e : Duration) → micros_of d ≡ micros_of e → d ≡ e
same_duration d e same = ap of_micros same

pub millis-times : (n : ℕ) → millis_of (of_micros (1000 * n)) ≡ n
millis-times n = omega arith

pub seconds-times : (n : ℕ) → seconds_of (of_micros (1000000 * n)) ≡ n
seconds-times n = omega arith

pub whole_millis-read : (d : Duration) (n : ℕ) → micros_of d ≡ 1000 * n → whole_millis d ≡ d
whole_millis-read d n e =
    ap (λ (micros : ℕ). whole_millis (of_micros micros)) e ∙ ap (λ (k : ℕ). of_micros (1000 * k)) (millis-times n)
    ∙ sym (same_duration d (of_micros (1000 * n)) e)

pub whole_seconds-read : (d : Duration) (n : ℕ) → micros_of d ≡ 1000000 * n → whole_seconds d ≡ d
whole_seconds-read d n e =
    ap (λ (micros : ℕ). whole_seconds (of_micros micros)) e
    ∙ ap (λ (k : ℕ). of_micros (1000000 * k)) (seconds-times n)
    ∙ sym (same_duration d (of_micros (1000000 * n)) e)
