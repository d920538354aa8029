-- Times as RFC 3339 writes them (section 5.6), in UTC and with their own digits of a second.
use Rattle.std.specs.Prelude.{ℕ, ◌/◌, ◌%◌, ◌==◌, List, [], ◌∷◌, ◌++◌, codes, decimal, take, if◌then◌else◌}
use Rattle.wirebase.specs.Digits.{last_digits}
use Rattle.wirebase.specs.Display.{pieces}
use Rattle.capture.specs.Calendar.{date_of}
use Rattle.capture.specs.Types.{Date, Time}

abbrev pub month_and_day_text : Date → List ℕ
month_and_day_text d = pieces (codes "-" ∷ last_digits 2 d.month ∷ codes "-" ∷ last_digits 2 d.day ∷ [])

-- a date; since the years begin with 1970, each has four digits at least
abbrev pub date_text : Date → List ℕ
date_text d = decimal d.year ++ month_and_day_text d

-- hour, minute and second of a number of seconds
abbrev pub clock_text : ℕ → List ℕ
clock_text seconds =
    pieces (last_digits 2 (seconds / 3600 % 24) ∷ codes ":" ∷ last_digits 2 (seconds / 60 % 60) ∷ codes ":"
    ∷ last_digits 2 (seconds % 60) ∷ [])

-- the first of the nine digits of a number of nanoseconds, this many, after a point; nothing where there are none
abbrev pub fraction_text : ℕ → ℕ → List ℕ
fraction_text digits nanoseconds = if digits == 0 then [] else codes "." ++ take digits (last_digits 9 nanoseconds)

-- a time
unfoldable pub time_text : Time → List ℕ
time_text t =
    pieces (date_text (date_of (t.seconds / 86400)) ∷ codes "T" ∷ clock_text t.seconds
    ∷ fraction_text t.digits t.nanoseconds ∷ codes "Z" ∷ [])
