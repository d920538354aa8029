-- What the checksum says, how many bytes are missing, and the fields.
use Rattle.std.proofs.Common.{refl}
use Rattle.packet_fields.proofs.Fields.{◌and◌}
use Rattle.message_fields.proofs.show.show_cut_message.Goals as goal

pub returns : goal.returns
returns g c =
    let (body, is, printed) = c.in_ok-_told.ensures in (
      _,
      record { body = body; told = c.in_ok-_told._told; is = is; items_are = refl },
      c.in_ok-show_state.ensures and c.in_ok-show_cut.ensures and printed,
    )
