-- How many bytes are missing, and what is there.
use Rattle.std.proofs.Common.{refl}
use Rattle.packet_fields.proofs.Fields.{◌and◌}
use Rattle.message_fields.proofs.udp.show_datagram.Goals as goal

pub returns : goal.returns
returns g c =
    let (body, are, printed) = c.in_ok-told.ensures in (
      _,
      (body, c.in_ok-told.told, are, refl, c.told_by.ensures),
      c.in_ok-show_extent.ensures and printed,
    )
