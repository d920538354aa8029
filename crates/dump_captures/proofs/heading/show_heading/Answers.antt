-- The words between what begins bold text and what ends it.
use Rattle.packet_fields.proofs.Printing.{◌then◌, gained_on_ok, gains_last}
use Rattle.dump_captures.specs.Heading.{heading}
use Rattle.dump_captures.proofs.heading.show_heading.Goals as goal

pub returns : goal.returns
unfolding heading
returns g c =
    let colored = c.is_colored-is_colored.ensures in
    gains_last _ _ _
    (rw colored at c.in_ok-begin_color.ensures then c.in_ok-show_words.ensures
    then rw colored at c.in_ok-end_color.ensures)
    (gained_on_ok _ _ _ _ c.write_all.ensures.bytes)
