-- What is counted is what would be listed.
use Rattle.dump_captures.proofs.printed.count_alone.Goals as goal

pub returns : goal.returns
returns c =
    let listed = c.in_ok-why.ensures in (
      listed.0,
      c.in_ok-why.why,
      listed.1,
      rw c.kind.ensures at c.outcome.ensures,
    )
