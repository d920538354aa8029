-- The members, one after another.
use Rattle.packet_fields.proofs.Fields.{◌and◌, prints_last}
use Rattle.dump_captures.proofs.members.show_path.Goals as goal

pub returns : goal.returns
returns g c =
    prints_last _ _ _
    (c.in_ok-field.ensures and c.in_ok-show_tunnel_members.ensures and c.in_ok-show_addresses.ensures
    and c.in_ok-show_ports.ensures and c.in_ok-show_frames.ensures)
    (rw c.is_over_tcp.ensures at c.show_transport.ensures)
