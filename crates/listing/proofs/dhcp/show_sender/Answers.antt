-- The lines, one after another.
use Rattle.packet_fields.proofs.Printing.{◌then◌, gains_last}
use Rattle.listing.proofs.dhcp.show_sender.Goals as goal

pub returns : goal.returns
returns g c =
    let message_type = rw c.from.ensures.value at c.in_ok-field.ensures in
    gains_last _ _ _ (message_type then c.in_ok-field-2.ensures then c.in_ok-field-3.ensures) c.field-4.ensures
