-- The lines, one after another.
use Rattle.packet_fields.proofs.Printing.{◌then◌, gains_last}
use Rattle.listing.proofs.icmp4.show_header.Goals as goal

pub returns : goal.returns
returns g c =
    let protocol = rw c.from.ensures.value at c.in_ok-part_field-3.ensures in
    gains_last _ _ _
    (c.in_ok-part_field.ensures then c.in_ok-part_field-2.ensures then protocol then c.in_ok-part_field-4.ensures)
    c.part_field-5.ensures
