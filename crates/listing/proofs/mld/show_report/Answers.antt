-- The lines, one after another.
use Rattle.packet_fields.proofs.Printing.{◌then◌, gains_last}
use Rattle.listing.proofs.mld.show_report.Goals as goal

pub returns : goal.returns
returns g c = gains_last _ _ _ (c.in_ok-line.ensures then c.in_ok-field.ensures) c.field-2.ensures
