-- The form decides.
use Rattle.dump_captures.proofs.printed.show_chosen.Goals as goal

pub show_lines-requires : goal.show_lines-requires
show_lines-requires g c = c.in-Lines.is

pub show_object-requires : goal.show_object-requires
show_object-requires g c = c.in-Json.is
