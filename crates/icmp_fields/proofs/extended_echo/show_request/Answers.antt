-- The fields, and the interface.
use Rattle.packet_fields.proofs.Fields.{prints_last}
use Rattle.icmp_fields.proofs.extended_echo.show_request.Goals as goal

pub returns : goal.returns
returns g c =
    prints_last _ _ _ c.in_ok-show_request_fields.ensures (rw c.split_at.ensures.back at c.show_structure.ensures)
