-- The lines, one after another.
use Rattle.packet_fields.proofs.Printing.{◌then◌, gains_last}
use Rattle.listing.proofs.dhcp.show_packet.Goals as goal

pub returns : goal.returns
returns g c =
    gains_last _ _ _
    (c.in_ok-show_sender.ensures then c.in_ok-show_addresses.ensures then c.in_ok-show_request.ensures)
    c.show_limits.ensures
