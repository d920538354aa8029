-- The months of the table, one by one.
use Rattle.std.proofs.Common.{rules, arith}
use Rattle.capture.specs.Calendar.{month_days}
use Rattle.capture.proofs.calendar.month_days.Goals as goal

pub returns-then-is_leap : goal.returns-then-is_leap
unfolding month_days
returns-then-is_leap c = search rules

pub returns-else-is_leap : goal.returns-else-is_leap
unfolding month_days
returns-else-is_leap c = search rules

pub returns-in-4 : goal.returns-in-4
unfolding month_days
returns-in-4 c = grind arith

pub returns-in_default : goal.returns-in_default
unfolding month_days
returns-in_default c = grind arith
