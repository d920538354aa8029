-- The lines, one after another.
use Rattle.packet_fields.proofs.Printing.{gains_last}
use Rattle.listing.proofs.ndopt.show_redirected_header.Goals as goal

pub returns : goal.returns
returns g c =
    gains_last _ _ _ c.in_ok-line.ensures c.show_redirected.ensures
