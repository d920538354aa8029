-- The lines, one after another.
use Rattle.packet_fields.proofs.Printing.{◌then◌, gains_last}
use Rattle.listing.proofs.mld.show_query.Goals as goal

pub returns : goal.returns
returns g c =
    gains_last _ _ _
    (c.in_ok-line.ensures then c.in_ok-field.ensures then c.in_ok-field-2.ensures then c.in_ok-field-3.ensures
    then c.in_ok-field-4.ensures then c.in_ok-field-5.ensures then c.in_ok-field-6.ensures)
    c.field-7.ensures
