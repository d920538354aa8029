-- What stands before, what the packet says and answers, and the end of the line.
use Rattle.std.proofs.Common.{refl}
use Rattle.packet_fields.proofs.Printing.{gained}
use Rattle.dump_captures.proofs.Printing.{colored_line}
use Rattle.dump_captures.proofs.brief.show_line.Goals as goal

pub returns : goal.returns
returns g c =
    let reason = c.in_ok-why.ensures in
    let packet = c.in_ok-show_packet.ensures in
    let red = c.is_red-is_red.ensures in (
      _,
      (
        c.in_ok-answer.answer,
        c.in_ok-answer.ensures,
        record { items = reason.0; is = reason.1; told = packet.0; says = packet.1; text_is = refl },
      ),
      colored_line _ _ _ _ _ _ _ _ _ _ _ _ _ (rw red at c.in_ok-begin_color.ensures) c.in_ok-show_front.ensures
          packet.2 c.in_ok-show_answer.ensures (rw red at c.in_ok-end_color.ensures)
          (gained _ _ _ c.in_ok-write_all.ensures.bytes),
    )
