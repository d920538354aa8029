use Rattle.std.proofs.Common.{◌≡◌, ◌∙◌, Some, ap, refl, sym}
use Rattle.std.specs.List.{find}
use Rattle.examples.specs.Reported.{is_due}
use Rattle.examples.proofs.reporter.Reporter.next_report.Goals as goal

pub returns-clause-state : goal.returns-clause-state
returns-clause-state g c =
    let due : find is_due c.args.self.now.groups.items ≡ Some c.in_ok-entry.entry =
    ap (find is_due) (sym c.as_slice.ensures.value) ∙ sym c.next_due.ensures ∙ c.in_ok-entry.was in
    rw (due, c.renew-kept.ensures.value, c.take_asked.ensures.rest, c.after_report-entry_after.ensures, c.again.ensures)
    refl
