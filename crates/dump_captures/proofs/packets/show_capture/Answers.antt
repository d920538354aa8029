-- The packets first, and then what stands behind them.
use Rattle.std.proofs.Common.{refl}
use Rattle.packet_fields.proofs.Printing.{gains_both}
use Rattle.dump_captures.proofs.packets.show_capture.Goals as goal

pub returns : goal.returns
returns g c =
    let shown = c.in_ok-stop.ensures in
    let end = c.in_ok-show_end.ensures in (
      _,
      record {
        packets_text = shown.0;
        session = _;
        packets = shown.1;
        end_text = end.0;
        ends = end.1;
        text_is = refl;
      },
      gains_both _ _ _ shown.0 end.0 shown.2 end.2,
    )
