-- The front of the object, the members of the heading and those of the items, and its end.
use Rattle.dump_captures.proofs.Printing.{object_printed, with_answer}
use Rattle.dump_captures.proofs.printed.show_object.Goals as goal

pub returns : goal.returns
returns g c =
    let listed = c.in_ok-why.ensures in
    with_answer _ _ _ _ _ c.in_ok-answer.ensures
    (object_printed _ _ _ listed.0 _ _ listed.1 c.is_small.ensures _ _ _ _ _ _ c.requires c.in_ok-open_object.ensures
    c.in_ok-show_members.ensures listed.2 c.in_ok-show_answer.ensures c.in_ok-close_object.ensures)
