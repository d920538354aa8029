-- What the packet leads to decides.
use Rattle.std.proofs.Common.{refl}
use Rattle.dump_captures.specs.Dump.{at_once, by_fragment}
use Rattle.dump_captures.proofs.packets.show_packet.Goals as goal

pub returns-in_ok-outcome-in-Sight : goal.returns-in_ok-outcome-in-Sight
returns-in_ok-outcome-in-Sight g c =
    let shown = c.in_ok-outcome-in-Sight.ensures in (
      shown.0,
      at_once _ c.in_ok-outcome-in-Sight.outcome (rw c.in-Sight.is at c.look.ensures) shown.1 c.alone.ensures refl,
      shown.2,
    )

pub returns-in_ok-counted-in-Fragment : goal.returns-in_ok-counted-in-Fragment
returns-in_ok-counted-in-Fragment g c =
    let shown = c.in_ok-counted-in-Fragment.ensures in (
      shown.0,
      by_fragment _ _ (rw c.in-Fragment.is at c.look.ensures) shown.1,
      shown.2,
    )
