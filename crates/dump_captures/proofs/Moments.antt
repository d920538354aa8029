-- The texts of lengths of time.
use Rattle.std.proofs.Common.{◌≡◌, ◌-◌, ◌/◌, ◌%◌, ◌++◌, Bool, arith, false, refl, true, ℕ}
use Rattle.std.specs.Prelude.{nat_lt}
unfoldable use Rattle.dump_captures.specs.TimeText.{difference_text, seconds_text}
use Rattle.dump_captures.specs.TimeText.{sign_text}
unfoldable use Rattle.dump_captures.specs.Moments.{span_text}
use Rattle.dump_captures.specs.Moments.{nanos_of}
use Rattle.dump_captures.specs.declared.moment.Moment.{Moment}

-- seconds, and the nanoseconds behind them
pub seconds_of : (m : Moment) → (nanos_of m / 1000000000 ≡ m.seconds) × (nanos_of m % 1000000000 ≡ m.nanoseconds)
seconds_of m = (omega (arith, m.part), omega (arith, m.part))

pub span_is : (is_negative : Bool) (m : Moment) (nanoseconds : ℕ) → nanos_of m ≡ nanoseconds
    → span_text (record { is_negative = is_negative; len = m }) ≡ sign_text is_negative ++ seconds_text nanoseconds
unfolding span_text seconds_text
span_is is_negative m nanoseconds is = rw (← is, (seconds_of m).0, (seconds_of m).1) refl

-- those since 1970
pub epoch : (m : Moment) → span_text (record { is_negative = false; len = m }) ≡ seconds_text (nanos_of m)
epoch m = span_is false m (nanos_of m) refl

pub backwards : (from to : ℕ) (m : Moment) → nat_lt to from ≡ true → nanos_of m ≡ from - to
    → span_text (record { is_negative = true; len = m }) ≡ difference_text from to
unfolding difference_text
backwards from to m before is = rw before (span_is true m (from - to) is)

pub forwards : (from to : ℕ) (m : Moment) → nat_lt to from ≡ false → nanos_of m ≡ to - from
    → span_text (record { is_negative = false; len = m }) ≡ difference_text from to
unfolding difference_text
forwards from to m before is = rw before (span_is false m (to - from) is)
