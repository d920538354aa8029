-- The lines, one after another.
use Rattle.listing.proofs.Words.{sym}
use Rattle.listing.proofs.Addresses.{identifier-text}
use Rattle.packet_fields.proofs.Printing.{◌then◌, gains_last}
use Rattle.listing.proofs.dhcp.show_request.Goals as goal

pub returns : goal.returns
returns g c =
    let identifier = rw (sym (identifier-text c.args.packet.now.client_identifier)) at c.in_ok-field-3.ensures in
    gains_last _ _ _
    (c.in_ok-field.ensures then c.in_ok-field-2.ensures then identifier then c.in_ok-field-4.ensures
    then c.in_ok-show_asked.ensures)
    c.show_servers.ensures
