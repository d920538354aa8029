-- The fields, one after the other.
use Rattle.packet_fields.proofs.Fields.{prints_last}
use Rattle.dump_captures.proofs.members.show_ports.Goals as goal

pub returns : goal.returns
returns g c =
    prints_last _ _ _ (rw c.source_port.ensures at c.in_ok-field.ensures)
    (rw c.destination_port.ensures at c.field-2.ensures)
