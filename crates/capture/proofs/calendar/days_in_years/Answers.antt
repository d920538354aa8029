-- The leap days are what the quotients count.
use Rattle.std.proofs.Common.{arith}
use Rattle.capture.proofs.Calendars.{days_of_years-is}
use Rattle.capture.proofs.calendar.days_in_years.Goals as goal

pub returns : goal.returns
returns c = omega (arith, days_of_years-is c.args.years)
