-- What private functions and models need; no public clause rests on it.
use Rattle.std.specs.Prelude.{ℕ, zero, suc, ◌+◌, if◌then◌else◌}
use Rattle.capture.specs.Calendar.{is_leap, month_days}
use Rattle.capture.specs.Types.{Time}

-- in this many first months of a year
unfoldable pub days_of_months : ℕ → ℕ → ℕ
days_of_months year zero = 0
days_of_months year (suc months) = days_of_months year months + month_days year (suc months)

abbrev pub year_days : ℕ → ℕ
year_days year = if is_leap year then 366 else 365

-- in this many years from 1970 on
unfoldable pub days_of_years : ℕ → ℕ
days_of_years zero = 0
days_of_years (suc years) = days_of_years years + year_days (1970 + years)

-- the time of these seconds and nanoseconds, without digits
abbrev pub time_of : ℕ × ℕ → Time
time_of parts = record { seconds = parts.0; nanoseconds = parts.1; digits = 0 }
