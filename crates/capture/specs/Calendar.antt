-- The days since 1970-01-01 as dates of the Gregorian calendar (RFC 3339 section 5.7 and appendix C).
use Rattle.std.specs.Prelude.{ℕ, zero, suc, ◌+◌, ◌%◌, ◌==◌, ◌&&◌, ◌||◌, not, nat_lt, Bool, if◌then◌else◌}
use Rattle.capture.specs.Types.{Date}

-- ---- tables

-- a leap year: every fourth year, but of the centuries only every fourth
abbrev pub is_leap : ℕ → Bool
is_leap year = (year % 4 == 0) && (not (year % 100 == 0) || (year % 400 == 0))

-- the number of days of a month
unfoldable pub month_days : ℕ → ℕ → ℕ
month_days year month =
    if month == 2 then (if is_leap year then 29 else 28)
    else if (month == 4) || (month == 6) || (month == 9) || (month == 11) then 30
    else 31

-- ---- dates

abbrev pub date : ℕ → ℕ → ℕ → Date
date year month day = record { year = year; month = month; day = day }

-- the day after a date: of the same month, or the first of the next month, or of the next year
abbrev pub next_date : Date → Date
next_date d =
    if nat_lt d.day (month_days d.year d.month) then date d.year d.month (d.day + 1)
    else if nat_lt d.month 12 then date d.year (d.month + 1) 1
    else date (d.year + 1) 1 1

-- the date this many days after 1970-01-01
unfoldable pub date_of : ℕ → Date
date_of zero = date 1970 1 1
date_of (suc days) = next_date (date_of days)

-- ---- the number of days that pass: the results of private functions
