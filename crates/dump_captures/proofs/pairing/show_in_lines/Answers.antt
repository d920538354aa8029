-- The line that says so, and those below it.
use Rattle.packet_fields.specs.declared.form.Form.TheVariants.{Lines}
use Rattle.packet_fields.proofs.Printing.{gained}
use Rattle.dump_captures.proofs.Printing.{gains_items}
use Rattle.dump_captures.proofs.pairing.show_in_lines.Goals as goal

pub returns : goal.returns
returns g c =
    rw c.if-is_brief.false
    (gains_items _ _ _ _ Lines _ c.show_asked-2.result (gained _ _ _ c.in_ok-write_all.ensures.bytes)
    c.show_asked-2.ensures)
