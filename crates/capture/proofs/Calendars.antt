-- Days, months and years that pass in the calendar.
use Rattle.std.proofs.Common.{◌≡◌, ℕ, zero, suc, ◌+◌, ◌-◌, ◌*◌, ◌/◌, ◌%◌, ◌<◌, ◌≤◌, Bool, true, false, refl, ap, ◌∙◌}
use Rattle.std.proofs.Common.{arith, add-zero, add-one, add-suc, add_assoc, lt-ltb, lit<, lit≤}
use Rattle.std.proofs.lemmas.Bool.{le-ltb, eqb-true, eqb-false}
use Rattle.std.specs.Prelude.{◌==◌, ◌&&◌, ◌||◌, not, nat_lt, if◌then◌else◌}
use Rattle.capture.specs.Calendar.{is_leap, month_days, date, next_date, date_of}
use Rattle.capture.specs.private.Parts.{days_of_months, year_days, days_of_years}
use Rattle.capture.specs.Types.{Date}

-- ---- days

-- the day after one that is not the last of its month, and after one that is
next_day : (year month day : ℕ) → day < month_days year month
    → next_date (date year month day) ≡ date year month (day + 1)
next_day year month day within = rw (lt-ltb day (month_days year month) within) refl

after_month : (year month : ℕ) → month < 12
    → next_date (date year month (month_days year month)) ≡ date year (month + 1) 1
after_month year month within =
    rw (le-ltb (month_days year month) (month_days year month) (omega arith), lt-ltb month 12 within) refl

after_year : (year : ℕ) → next_date (date year 12 (month_days year 12)) ≡ date (year + 1) 1 1
after_year year = rw (le-ltb (month_days year 12) (month_days year 12) (omega arith)) refl

-- days after the first of a month
pub date_of-day : (first year month : ℕ) → date_of first ≡ date year month 1 → (days : ℕ)
    → days < month_days year month → date_of (first + days) ≡ date year month (days + 1)
unfolding date_of
date_of-day first year month is zero within = rw add-zero is
date_of-day first year month is (suc days) within =
    rw (add-suc first days, date_of-day first year month is days (omega arith))
    (next_day year month (days + 1) (omega arith) ∙ ap (λ n. date year month (n + 1)) (add-one days))

-- ---- months

least_days : (leap february short : Bool)
    → 28 ≤ (if february then (if leap then 29 else 28) else if short then 30 else 31)
least_days true true short = lit≤ tt
least_days false true short = lit≤ tt
least_days leap false true = lit≤ tt
least_days leap false false = lit≤ tt

month_days-least : (year month : ℕ) → 28 ≤ month_days year month
unfolding month_days
month_days-least year month =
    least_days (is_leap year) (month == 2) ((month == 4) || (month == 6) || (month == 9) || (month == 11))

-- the last day of a month
last_day : (first year month : ℕ) → date_of first ≡ date year month 1
    → date_of (first + (month_days year month - 1)) ≡ date year month (month_days year month)
last_day first year month is =
    let least = month_days-least year month in
    let whole : month_days year month - 1 + 1 ≡ month_days year month = omega (arith, least) in
    date_of-day first year month is (month_days year month - 1) (omega (arith, least))
    ∙ ap (date year month) whole

-- the day after it
day_after : (days : ℕ) → date_of (suc days) ≡ next_date (date_of days)
unfolding date_of
day_after days = refl

date_of-month : (first year month : ℕ) → month < 12 → date_of first ≡ date year month 1
    → date_of (first + month_days year month) ≡ date year (month + 1) 1
date_of-month first year month within is =
    let next : first + month_days year month ≡ suc (first + (month_days year month - 1))
    = omega (arith, month_days-least year month) in
    rw (next, day_after (first + (month_days year month - 1)), last_day first year month is)
    (after_month year month within)

date_of-december : (first year : ℕ) → date_of first ≡ date year 12 1
    → date_of (first + month_days year 12) ≡ date (year + 1) 1 1
date_of-december first year is =
    let next : first + month_days year 12 ≡ suc (first + (month_days year 12 - 1))
    = omega (arith, month_days-least year 12) in
    rw (next, day_after (first + (month_days year 12 - 1)), last_day first year 12 is) (after_year year)

-- months after the first of a year
pub date_of-months : (first year : ℕ) → date_of first ≡ date year 1 1 → (months : ℕ) → months < 12
    → date_of (first + days_of_months year months) ≡ date year (months + 1) 1
unfolding days_of_months
date_of-months first year is zero within = rw add-zero is
date_of-months first year is (suc months) within =
    let here : date_of (first + days_of_months year months) ≡ date year (suc months) 1
    = date_of-months first year is months (omega arith) ∙ ap (λ n. date year n 1) (add-one months) in
    rw (← add_assoc first (days_of_months year months) (month_days year (suc months)))
    (date_of-month (first + days_of_months year months) year (suc months) within here)

-- one month more
pub months_left : (year months left days in_month : ℕ) → in_month ≡ month_days year (months + 1) → in_month ≤ left
    → left + days_of_months year months ≡ days → left - in_month + days_of_months year (months + 1) ≡ days
unfolding days_of_months
months_left year months left days in_month is within so_far =
    let month = rw add-one at is in rw add-one (omega (arith, month))

-- the date in a month, after the months that passed whole
pub date_found : (year months left days in_month : ℕ) → months < 12 → in_month ≡ month_days year (months + 1)
    → left < in_month → left + days_of_months year months ≡ days
    → (first : ℕ) → date_of first ≡ date year 1 1 → date_of (first + days) ≡ date year (months + 1) (left + 1)
date_found year months left days in_month some is within so_far first here =
    let place : first + days ≡ first + days_of_months year months + left = omega arith in
    let begins = date_of-months first year here months some in
    rw place (date_of-day (first + days_of_months year months) year (months + 1) begins left (rw is at within))

-- ---- years

months_of_year : (year : ℕ) → days_of_months year 11 + 31 ≡ year_days year
unfolding days_of_months month_days
months_of_year year =
    elim (is_leap year) as (λ leap. 31 + (if leap then 29 else 28) + 31 + 30 + 31 + 30 + 31 + 31 + 30 + 31 + 30 + 31
    ≡ (if leap then 366 else 365)) [ true ↦ refl | false ↦ refl ]

pub december : (year months left days : ℕ) → months ≡ 11 → left + days_of_months year months ≡ days
    → days < year_days year
    → (first : ℕ) → date_of first ≡ date year 1 1 → date_of (first + days) ≡ date year 12 (left + 1)
unfolding month_days
december year months left days last so_far within first here =
    let before = rw last at so_far in
    date_found year 11 left days 31 (lit< tt) refl (omega (arith, months_of_year year, before)) before first here

date_of-year : (first year : ℕ) → date_of first ≡ date year 1 1
    → date_of (first + year_days year) ≡ date (year + 1) 1 1
unfolding month_days
date_of-year first year is =
    let december : date_of (first + days_of_months year 11) ≡ date year 12 1
    = date_of-months first year is 11 (lit< tt) in
    rw (← months_of_year year, ← add_assoc first (days_of_months year 11) 31)
    (date_of-december (first + days_of_months year 11) year december)

pub date_of-years : (years : ℕ) → date_of (days_of_years years) ≡ date (1970 + years) 1 1
unfolding date_of days_of_years
date_of-years zero = refl
date_of-years (suc years) =
    date_of-year (days_of_years years) (1970 + years) (date_of-years years)
    ∙ ap (λ year. date year 1 1) (let next : 1970 + years + 1 ≡ 1970 + suc years = omega arith in next)

least_year : (leap : Bool) → 365 ≤ (if leap then 366 else 365)
least_year true = lit≤ tt
least_year false = lit≤ tt

year_days-least : (year : ℕ) → 365 ≤ year_days year
year_days-least year = least_year (is_leap year)

most_year : (leap : Bool) → (if leap then 366 else 365) ≤ 366
most_year true = lit≤ tt
most_year false = lit≤ tt

year_days-most : (year : ℕ) → year_days year ≤ 366
year_days-most year = most_year (is_leap year)

-- ---- leap days

-- what a quotient grows by at the next number
next_4 : (n : ℕ) (whole : Bool) → ((n + 1) % 4 == 0) ≡ whole → (n + 1) / 4 ≡ n / 4 + (if whole then 1 else 0)
next_4 n true is = omega (arith, eqb-true _ _ is)
next_4 n false is = let not_whole = eqb-false _ _ is in omega (arith, not_whole)

next_100 : (n : ℕ) (whole : Bool) → ((n + 1) % 100 == 0) ≡ whole → (n + 1) / 100 ≡ n / 100 + (if whole then 1 else 0)
next_100 n true is = omega (arith, eqb-true _ _ is)
next_100 n false is = let not_whole = eqb-false _ _ is in omega (arith, not_whole)

next_400 : (n : ℕ) (whole : Bool) → ((n + 1) % 400 == 0) ≡ whole → (n + 1) / 400 ≡ n / 400 + (if whole then 1 else 0)
next_400 n true is = omega (arith, eqb-true _ _ is)
next_400 n false is = let not_whole = eqb-false _ _ is in omega (arith, not_whole)

-- what 100 divides 4 divides, and what 400 divides 100 divides
by_4 : (n : ℕ) → (n % 4 == 0) ≡ false → (n % 100 == 0) ≡ true → ⊥
by_4 n four hundred = eqb-false _ _ four (let h = eqb-true _ _ hundred in omega (arith, h))

by_100 : (n : ℕ) → (n % 100 == 0) ≡ false → (n % 400 == 0) ≡ true → ⊥
by_100 n hundred cycle = eqb-false _ _ hundred (let h = eqb-true _ _ cycle in omega (arith, h))

-- a leap year has a day more, as the quotients tell
leap_by : (n : ℕ) (four hundred cycle : Bool) → (n % 4 == 0) ≡ four → (n % 100 == 0) ≡ hundred
    → (n % 400 == 0) ≡ cycle
    → (if four && (not hundred || cycle) then 366 else 365) + (if hundred then 1 else 0)
    ≡ 365 + (if four then 1 else 0) + (if cycle then 1 else 0)
leap_by n true true true e f g = refl
leap_by n true true false e f g = refl
leap_by n true false true e f g = absurd (by_100 n f g)
leap_by n true false false e f g = refl
leap_by n false true cycle e f g = absurd (by_4 n e f)
leap_by n false false true e f g = absurd (by_100 n f g)
leap_by n false false false e f g = refl

leap_day : (n : ℕ) → year_days (n + 1) + n / 4 + n / 400 + (n + 1) / 100
    ≡ 365 + (n + 1) / 4 + (n + 1) / 400 + n / 100
leap_day n =
    omega (
      arith,
      next_4 n _ refl,
      next_100 n _ refl,
      next_400 n _ refl,
      leap_by (n + 1) _ _ _ refl refl refl,
    )

pub days_of_years-is : (years : ℕ) → days_of_years years + 477 + (1969 + years) / 100
    ≡ 365 * years + (1969 + years) / 4 + (1969 + years) / 400
unfolding days_of_years
days_of_years-is zero = refl
days_of_years-is (suc years) =
    let year : 1969 + years + 1 ≡ 1970 + years = omega arith in
    omega (arith, rw year at (leap_day (1969 + years)), days_of_years-is years)

-- a year has 365 days at least, and the leap days of 400 years are fewer than that
pub days_of_years-least : (years : ℕ) → 365 * years ≤ days_of_years years
unfolding days_of_years
days_of_years-least zero = lit≤ tt
days_of_years-least (suc years) = omega (arith, days_of_years-least years, year_days-least (1970 + years))

pub days_of_years-some : (years : ℕ) → days_of_years years ≤ 366 * years
unfolding days_of_years
days_of_years-some zero = lit≤ tt
days_of_years-some (suc years) = omega (arith, days_of_years-some years, year_days-most (1970 + years))

pub days_of_years-most : (years : ℕ) → years ≤ 401 → days_of_years years ≤ 365 * years + 100
days_of_years-most years few = omega (arith, days_of_years-is years)

-- ---- the calendar begins anew after 400 years

pub days_of_years-cycles : (cycles years : ℕ)
    → days_of_years (400 * cycles + years) ≡ 146097 * cycles + days_of_years years
days_of_years-cycles cycles years =
    omega (arith, days_of_years-is (400 * cycles + years), days_of_years-is years)

leap_cycle : (cycles year : ℕ) → is_leap (400 * cycles + year) ≡ is_leap year
leap_cycle cycles year =
    let four : (400 * cycles + year) % 4 ≡ year % 4 = omega arith in
    let hundred : (400 * cycles + year) % 100 ≡ year % 100 = omega arith in
    let cycle : (400 * cycles + year) % 400 ≡ year % 400 = omega arith in
    rw (four, hundred, cycle) refl

year_days-cycle : (cycles year : ℕ) → year_days (400 * cycles + year) ≡ year_days year
year_days-cycle cycles year = ap (λ leap. if leap then 366 else 365) (leap_cycle cycles year)

-- the days after whole years are of one year
pub within_year : (cycles years day : ℕ) → days_of_years years ≤ day → day < days_of_years (years + 1)
    → day - days_of_years years < year_days (1970 + 400 * cycles + years)
unfolding days_of_years
within_year cycles years day least most =
    let year : 1970 + 400 * cycles + years ≡ 400 * cycles + (1970 + years) = omega arith in
    let next = rw add-one at most in
    rw (year, year_days-cycle cycles (1970 + years)) (omega (arith, next))

-- the first day of that year, and the days after it
pub first_day : (cycles years : ℕ)
    → date_of (days_of_years (400 * cycles + years)) ≡ date (1970 + 400 * cycles + years) 1 1
first_day cycles years =
    date_of-years (400 * cycles + years)
    ∙ ap (λ year. date year 1 1)
    (let same : 1970 + (400 * cycles + years) ≡ 1970 + 400 * cycles + years = omega arith in same)

pub all_days : (days years : ℕ) → days_of_years years ≤ days % 146097
    → days_of_years (400 * (days / 146097) + years) + (days % 146097 - days_of_years years) ≡ days
all_days days years least = omega (arith, days_of_years-cycles (days / 146097) years)

-- ---- the years that there are

year_grows : (year : ℕ) (same next : Bool) (month : ℕ) (a b : ℕ)
    → (if same then date year month a else if next then date year b 1 else date (year + 1) 1 1).year ≤ year + 1
year_grows year true next month a b = omega arith
year_grows year false true month a b = omega arith
year_grows year false false month a b = omega arith

year_stays : (year : ℕ) (same next : Bool) (month : ℕ) (a b : ℕ)
    → year ≤ (if same then date year month a else if next then date year b 1 else date (year + 1) 1 1).year
year_stays year true next month a b = omega arith
year_stays year false true month a b = omega arith
year_stays year false false month a b = omega arith

-- the year of the next day
next_year-least : (d : Date) → d.year ≤ (next_date d).year
next_year-least d =
    year_stays d.year (nat_lt d.day (month_days d.year d.month)) (nat_lt d.month 12) d.month (d.day + 1) (d.month + 1)

next_year-most : (d : Date) → (next_date d).year ≤ d.year + 1
next_year-most d =
    year_grows d.year (nat_lt d.day (month_days d.year d.month)) (nat_lt d.month 12) d.month (d.day + 1) (d.month + 1)

pub year-least : (days : ℕ) → 1970 ≤ (date_of days).year
unfolding date_of
year-least zero = lit≤ tt
year-least (suc days) = omega (arith, year-least days, next_year-least (date_of days))

pub year-most : (days : ℕ) → (date_of days).year ≤ 1970 + days
unfolding date_of
year-most zero = lit≤ tt
year-most (suc days) = omega (arith, year-most days, next_year-most (date_of days))
