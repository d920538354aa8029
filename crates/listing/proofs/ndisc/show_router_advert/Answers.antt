-- The lines, one after another.
use Rattle.packet_fields.proofs.Printing.{◌then◌, gains_last}
use Rattle.listing.proofs.ndisc.show_router_advert.Goals as goal

pub returns : goal.returns
returns g c =
    gains_last _ _ _ (c.in_ok-show_router.ensures then c.in_ok-show_lladdr.ensures then c.in_ok-field.ensures)
    c.show_prefix_info.ensures
