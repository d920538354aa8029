-- The heading, and then a line for each item.
use Rattle.dump_captures.proofs.Printing.{lines_printed, with_answer}
use Rattle.dump_captures.proofs.printed.show_lines.Goals as goal

pub returns : goal.returns
returns g c =
    let listed = c.in_ok-why.ensures in
    with_answer _ _ _ _ _ c.in_ok-answer.ensures
    (lines_printed _ _ _ listed.0 _ _ listed.1 _ _ _ _ c.requires c.in_ok-show_heading.ensures listed.2
    c.in_ok-show_answer.ensures)
