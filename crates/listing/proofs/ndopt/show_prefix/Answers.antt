-- The lines, one after another.
use Rattle.packet_fields.proofs.Printing.{◌then◌, gains_last}
use Rattle.listing.proofs.ndopt.show_prefix.Goals as goal

pub returns : goal.returns
returns g c =
    let flags = rw c.bits.ensures at c.in_ok-part_field-2.ensures in
    gains_last _ _ _
    (c.in_ok-part_field.ensures then flags then c.in_ok-part_field-3.ensures then c.in_ok-part_field-4.ensures)
    c.part_field-5.ensures
