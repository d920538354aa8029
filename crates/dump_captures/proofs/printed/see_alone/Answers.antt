-- The reason is that of the listing, which is not printed.
use Rattle.dump_captures.proofs.Printing.{left_out}
use Rattle.dump_captures.proofs.printed.see_alone.Goals as goal

pub returns : goal.returns
returns c =
    let listed = c.in_ok-reason.ensures in (
      _,
      c.in_ok-see.ensures,
      left_out _ _ _ listed.0 _ _ listed.1 _ c.requires,
    )
