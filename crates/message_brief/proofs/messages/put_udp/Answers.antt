-- What the datagram says, or nothing.
use Rattle.packet_fields.proofs.Printing.{gains_none}
use Rattle.message_brief.specs.Messages.{opened, unopened}
use Rattle.message_brief.proofs.messages.put_udp.Goals as goal

pub returns-in_ok-is_whole-in-Ok : goal.returns-in_ok-is_whole-in-Ok
returns-in_ok-is_whole-in-Ok g c =
    let (text, is, gains) = c.in_ok-is_whole-in-Ok.ensures in
    rw c.is_all.ensures (text, opened _ text _ c.in-Ok.ensures.sound is, gains)

pub returns-in-Err : goal.returns-in-Err
returns-in-Err g c = (_, unopened c.in-Err.field-0 c.in-Err.ensures.refuses, gains_none _)
