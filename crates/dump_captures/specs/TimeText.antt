-- The texts of times: as RFC 3339 writes them (section 5.6), in UTC and with nine digits of a second, and in seconds.
use Rattle.std.specs.Prelude.{ℕ, ◌-◌, ◌/◌, ◌%◌, ◌==◌, nat_lt, Bool, true, false, if◌then◌else◌, List, [], ◌++◌, codes}
use Rattle.std.specs.Prelude.{decimal}
use Rattle.wirebase.specs.Digits.{last_digits}
use Rattle.capture.specs.Calendar.{date_of}
use Rattle.capture.specs.TimeText.{date_text, clock_text}
use Rattle.dump_captures.specs.declared.options.TimeForm.{TimeForm}
use Rattle.dump_captures.specs.declared.options.TimeForm.TheVariants.{Clock, Utc, Relative, Delta, Epoch}

-- ---- in UTC

-- hour, minute and second of a number of seconds, and the digits of nanoseconds
unfoldable pub time_of_day_text : ℕ → ℕ → List ℕ
time_of_day_text seconds nanoseconds =
    codes "T" ++ clock_text seconds ++ codes "." ++ last_digits 9 nanoseconds ++ codes "Z"

-- the time this many seconds and nanoseconds after 1970-01-01T00:00:00Z
unfoldable pub time_text : ℕ → ℕ → List ℕ
time_text seconds nanoseconds = date_text (date_of (seconds / 86400)) ++ time_of_day_text seconds nanoseconds

-- the digits of a year before its last four, where it has more
abbrev pub year_front : ℕ → List ℕ
year_front ten_thousands = if ten_thousands == 0 then [] else decimal ten_thousands

-- a time whose digits before these of its year are those of a number
abbrev pub long_text : ℕ → List ℕ → List ℕ
long_text ten_thousands text = year_front ten_thousands ++ text

-- the time of day with milliseconds
unfoldable pub milliseconds_text : ℕ → ℕ → List ℕ
milliseconds_text seconds nanoseconds =
    clock_text seconds ++ codes "." ++ last_digits 3 (nanoseconds / 1000000)

-- ---- seconds

-- a number of nanoseconds as seconds, with nine digits behind the point
unfoldable pub seconds_text : ℕ → List ℕ
seconds_text nanoseconds =
    decimal (nanoseconds / 1000000000) ++ (codes "." ++ last_digits 9 (nanoseconds % 1000000000))

abbrev pub sign_text : Bool → List ℕ
sign_text is_negative = if is_negative then codes "-" else []

-- the time from one moment to another, with a hyphen before it where the other is earlier
unfoldable pub difference_text : ℕ → ℕ → List ℕ
difference_text from to =
    if nat_lt to from then sign_text true ++ seconds_text (from - to) else sign_text false ++ seconds_text (to - from)

-- ---- the time of a packet

-- in a form, of which two count from the time of an earlier packet
abbrev pub form_text : TimeForm → ℕ → ℕ → List ℕ
form_text Utc from nanoseconds = time_text (nanoseconds / 1000000000) (nanoseconds % 1000000000)
form_text Clock from nanoseconds = milliseconds_text (nanoseconds / 1000000000) (nanoseconds % 1000000000)
form_text Relative from nanoseconds = difference_text from nanoseconds
form_text Delta from nanoseconds = difference_text from nanoseconds
form_text Epoch from nanoseconds = seconds_text nanoseconds
