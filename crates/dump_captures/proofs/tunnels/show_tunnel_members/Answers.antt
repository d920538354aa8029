-- There are none, or they are a list.
use Rattle.packet_fields.proofs.Fields.{prints_none}
use Rattle.dump_captures.proofs.tunnels.show_tunnel_members.Goals as goal

pub returns-in-Zero : goal.returns-in-Zero
returns-in-Zero g c = rw c.in-Zero.is (prints_none _ _)
