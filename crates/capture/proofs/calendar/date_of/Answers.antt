-- The cycles and the years pass whole, and then the days of the last year.
use Rattle.std.proofs.Common.{◌/◌, ◌%◌, sym, ap, ◌∙◌}
use Rattle.capture.specs.Calendar.{date_of}
use Rattle.capture.proofs.Calendars.{within_year, first_day, all_days}
use Rattle.capture.proofs.calendar.date_of.Goals as goal

pub date_in_year-requires : goal.date_in_year-requires
date_in_year-requires c =
    rw c.days_in_years.ensures
    (within_year (c.args.days / 146097) c.years_in-years.result (c.args.days % 146097) c.years_in-years.ensures.least
    c.years_in-years.ensures.most)

pub returns-clause-date : goal.returns-clause-date
returns-clause-date c =
    let years = c.years_in-years.result in
    let here = rw c.days_in_years.ensures at
    (c.date_in_year.ensures.date _ (first_day (c.args.days / 146097) c.years_in-years.result)) in
    sym here ∙ ap date_of (all_days c.args.days c.years_in-years.result c.years_in-years.ensures.least)
