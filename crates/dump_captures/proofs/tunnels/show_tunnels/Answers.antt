-- One, and then three.
use Rattle.packet_fields.proofs.Printing.{gains_last}
use Rattle.dump_captures.proofs.tunnels.show_tunnels.Goals as goal

pub returns-in_ok-show_tunnel-in-Four : goal.returns-in_ok-show_tunnel-in-Four
returns-in_ok-show_tunnel-in-Four g c =
    rw c.in-Four.is
    (gains_last _ _ c.show_three-in-Four.result c.in_ok-show_tunnel-in-Four.ensures c.show_three-in-Four.ensures)
