-- The name, and the addresses of either version.
use Rattle.packet_fields.proofs.Printing.{◌then◌, gained, gains_last}
use Rattle.dump_captures.proofs.tunnels.show_tunnel.Goals as goal

pub returns-in-V4 : goal.returns-in-V4
returns-in-V4 g c =
    let name = rw c.name_of.ensures at c.in_ok-put.ensures.text in
    rw c.in-V4.is
    (gains_last _ _ c.show_ends.result (gained _ _ _ c.in_ok-write_all.ensures.bytes then name) c.show_ends.ensures)

pub returns-in-V6 : goal.returns-in-V6
returns-in-V6 g c =
    let name = rw c.name_of.ensures at c.in_ok-put.ensures.text in
    rw c.in-V6.is
    (gains_last _ _ c.show_ends-in-V6.result (gained _ _ _ c.in_ok-write_all.ensures.bytes then name)
    c.show_ends-in-V6.ensures)
