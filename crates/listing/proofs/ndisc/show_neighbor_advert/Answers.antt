-- The lines, one after another.
use Rattle.packet_fields.proofs.Printing.{◌then◌, gains_last}
use Rattle.listing.proofs.ndisc.show_neighbor_advert.Goals as goal

pub returns : goal.returns
returns g c =
    let flags = rw c.bits.ensures at c.in_ok-field.ensures in
    gains_last _ _ _ (c.in_ok-line.ensures then flags then c.in_ok-field-2.ensures) c.show_lladdr.ensures
