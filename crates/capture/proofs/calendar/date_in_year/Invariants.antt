-- What is left, and the days of the months that passed.
use Rattle.std.proofs.Common.{◌≡◌, ◌+◌}
use Rattle.capture.specs.private.Parts.{days_of_months}
use Rattle.capture.proofs.calendar.date_in_year.Given as goal

abbrev pub invariant-loop-months : goal.invariant-loop-months
invariant-loop-months l = l.left + days_of_months l.year l.months ≡ l.days
