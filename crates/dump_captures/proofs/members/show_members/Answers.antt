-- The members, one after another.
use Rattle.packet_fields.proofs.Fields.{◌and◌, prints_last}
use Rattle.dump_captures.proofs.members.show_members.Goals as goal

pub returns : goal.returns
returns g c =
    prints_last _ _ _
    (c.in_ok-show_file.ensures and c.in_ok-show_time.ensures and c.in_ok-show_link.ensures
    and c.in_ok-show_lengths.ensures and c.in_ok-show_path.ensures)
    (rw (c.name.ensures, c.kind.ensures) at c.field.ensures)
