-- The part's name with its dot, and the field.
use Rattle.listing.proofs.Words.{part_field}
use Rattle.packet_fields.proofs.Printing.{gained, gains_last}
use Rattle.listing.proofs.printer.part_field.Goals as goal

pub returns : goal.returns
unfolding part_field
returns g c =
    let part = rw c.as_bytes.ensures.value at c.in_ok-write_all.ensures.bytes in
    gains_last _ _ _ (gained _ _ _ part) c.field.ensures
