-- The months pass one by one, and then the days of the last.
use Rattle.std.proofs.Common.{arith}
use Rattle.capture.specs.private.Parts.{days_of_months}
use Rattle.capture.proofs.Calendars.{months_left, date_found, december}
use Rattle.capture.proofs.calendar.date_in_year.Goals as goal

pub loop-months-init : goal.loop-months-init
unfolding days_of_months
loop-months-init c = omega arith

pub loop-months-preserved : goal.loop-months-preserved
loop-months-preserved c =
    months_left c.args.year c.loop-months.months c.loop-months.left c.args.days _ c.month_days-in_month.ensures
    (omega arith) c.loop-months.invariant

pub returns-then-left-in_month-clause-date : goal.returns-then-left-in_month-clause-date
returns-then-left-in_month-clause-date c =
    date_found c.args.year c.loop-months.months c.loop-months.left c.args.days _ (omega arith)
    c.month_days-in_month.ensures c.if-left-in_month.true c.loop-months.invariant

pub returns-clause-date : goal.returns-clause-date
returns-clause-date c =
    december c.args.year c.loop-months.months c.loop-months.left c.args.days (omega arith) c.loop-months.invariant
    c.requires
