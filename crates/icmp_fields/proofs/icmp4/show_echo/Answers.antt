-- The head, and what follows the checksum.
use Rattle.packet_fields.proofs.Fields.{prints_last}
use Rattle.icmp_fields.proofs.icmp4.show_echo.Goals as goal

pub returns : goal.returns
returns g c =
    prints_last _ _ _ c.in_ok-show_head.ensures c.show_echo.ensures
