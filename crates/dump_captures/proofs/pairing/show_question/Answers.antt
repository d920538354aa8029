-- An object, or lines.
use Rattle.dump_captures.specs.Pairing.{waiting_text}
use Rattle.dump_captures.proofs.SummaryObjects.{in_object}
use Rattle.dump_captures.proofs.pairing.show_question.Goals as goal

pub returns-in_ok-show_asked-in-Json : goal.returns-in_ok-show_asked-in-Json
returns-in_ok-show_asked-in-Json g c =
    rw c.in-Json.is
    (in_object waiting_text _ _ _ _ _ _ c.close_object.result c.in_ok-open_summary-in-Json.ensures
    c.in_ok-show_asked-in-Json.ensures c.close_object.ensures)

pub returns-in-Lines : goal.returns-in-Lines
returns-in-Lines g c = rw c.in-Lines.is c.show_in_lines.ensures
