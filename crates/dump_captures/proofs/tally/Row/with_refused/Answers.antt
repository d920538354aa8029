-- The number at the reason's place is one more.
use Rattle.std.proofs.Common.{arith}
use Rattle.dump_captures.proofs.Tallies.{with_refused-set}
use Rattle.dump_captures.proofs.tally.Row.with_refused.Goals as goal

pub returns : goal.returns
returns c =
    with_refused-set c.args.self c.args.reason c.args.octets c.place-place.result c.saturating_add.result
    c.saturating_add-2.result c.place-place.ensures.value (omega arith) c.saturating_add.ensures
    c.saturating_add-2.ensures
