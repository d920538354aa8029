-- What the datagram tells is printed.
use Rattle.std.proofs.Common.{ap}
use Rattle.dump_captures.proofs.packets.show_whole.Goals as goal

pub returns : goal.returns
returns g c =
    let shown = c.in_ok-outcome.ensures in (
      shown.0,
      record {
        sight = _;
        outcome = c.in_ok-outcome.outcome;
        is_sight = rw c.as_slice.ensures.value at c.look_at_joined-sight.ensures;
        prints = shown.1;
        counts =
            ap (λ joined. record { outcome = c.in_ok-outcome.outcome; joined = joined })
            (rw c.as_slice-2.ensures.value at c.all_but_one.ensures);
      },
      shown.2,
    )
