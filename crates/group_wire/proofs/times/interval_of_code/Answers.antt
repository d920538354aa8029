use Rattle.std.proofs.Common.{arith}
use Rattle.group_wire.proofs.QueryTimes.{longest}
use Rattle.group_wire.proofs.times.interval_of_code.Goals as goal

pub from_secs-requires : goal.from_secs-requires
from_secs-requires c =
    omega (
      arith,
      c.total_millis.ensures,
      c.duration_of_code.ensures.value,
      longest c.duration_of_code.ensures.rises c.args.code c.ranges.code.fits,
    )
