-- The value, and then the line's end.
use Rattle.listing.proofs.Words.{line}
use Rattle.packet_fields.proofs.Printing.{gains_last, gained_on_ok}
use Rattle.listing.proofs.printer.line.Goals as goal

pub returns : goal.returns
unfolding line
returns g c = gains_last _ _ _ c.in_ok-write_to.ensures (gained_on_ok _ _ _ _ c.write_all.ensures.bytes)
