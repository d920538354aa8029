-- The hours by their seconds.
use Rattle.std.proofs.Common.{◌≡◌, ◌/◌, refl, arith}
use Rattle.dump_captures.specs.TimeText.{milliseconds_text}
use Rattle.dump_captures.proofs.time.clock_octets.Goals as goal

pub returns : goal.returns
unfolding milliseconds_text
returns c =
    let hours : c.args.seconds / 60 / 60 ≡ c.args.seconds / 3600 = omega arith in
    rw (
      c.two_digits.ensures,
      c.two_digits-2.ensures,
      c.two_digits-3.ensures,
      c.three_digits.ensures,
      c.from.ensures,
      hours,
    ) refl
