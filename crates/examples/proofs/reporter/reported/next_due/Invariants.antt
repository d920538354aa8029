use Rattle.std.proofs.Common.{◌≡◌, drop}
use Rattle.std.specs.List.{find}
use Rattle.examples.specs.Reported.{is_due}
use Rattle.examples.proofs.reporter.reported.next_due.Given as goal

-- what is found in the rest is what is found
abbrev pub invariant-loop-entry : goal.invariant-loop-entry
invariant-loop-entry g l = find is_due (drop l.entry-index l.entries) ≡ find is_due l.entries
