-- The leap days of this many years are fewer than a year has.
use Rattle.std.proofs.Common.{◌≡◌, ◌+◌, ◌-◌, ◌/◌, arith}
use Rattle.capture.proofs.Calendars.{days_of_years-least, days_of_years-some, days_of_years-most}
use Rattle.capture.proofs.calendar.years_in.Goals as goal

pub overflow_sub-result : goal.overflow_sub-result
overflow_sub-result c = omega (arith, days_of_years-some (c.args.days / 365))

pub returns-then-days_in_years-days-clause-least : goal.returns-then-days_in_years-days-clause-least
returns-then-days_in_years-days-clause-least c =
    let here = days_of_years-some (c.args.days / 365) in
    omega (arith, here, days_of_years-most (c.args.days / 365 - 1) (omega arith))

pub returns-then-days_in_years-days-clause-most : goal.returns-then-days_in_years-days-clause-most
returns-then-days_in_years-days-clause-most c =
    let here = days_of_years-some (c.args.days / 365) in
    let same : c.args.days / 365 - 1 + 1 ≡ c.args.days / 365 = omega (arith, here) in
    rw same (omega arith)

pub returns-else-days_in_years-days-clause-most : goal.returns-else-days_in_years-days-clause-most
returns-else-days_in_years-days-clause-most c = omega (arith, days_of_years-least (c.args.days / 365 + 1))
