-- The name, the sign, and the line of the value.
use Rattle.listing.proofs.Words.{◌++◌, append_assoc, codes, field, line}
use Rattle.packet_fields.proofs.Printing.{◌then◌, gained, gains_last}
use Rattle.listing.proofs.printer.field.Goals as goal

pub returns : goal.returns
unfolding field line
returns g c =
    let name = rw c.as_bytes.ensures.value at c.in_ok-write_all.ensures.bytes in
    rw (append_assoc (c.args.name.now ++ codes "=") (g.V.Value.text c.args.value) (codes "\n"))
    (gains_last _ _ _ (gained _ _ _ name then gained _ _ _ c.in_ok-write_all-2.ensures.bytes) c.line.ensures)
