-- Where the reading stopped tells the status.
use Rattle.std.proofs.Common.{refl}
use Rattle.dump_captures.specs.Files.{opened}
use Rattle.dump_captures.specs.declared.stop.Stop.TheVariants.{Ended, Enough, Unread}
use Rattle.dump_captures.proofs.files.dump_input.Goals as goal

pub returns-in-Ended : goal.returns-in-Ended
returns-in-Ended g c =
    let printed = rw (c.in-Ended.is, c.told_name-told.ensures) at c.in_ok-stop.ensures in
    (printed.0, opened (Ended c.in-Ended.ending) printed.1 c.status_of.ensures, printed.2)

pub returns-in-Enough : goal.returns-in-Enough
returns-in-Enough g c =
    let printed = rw (c.in-Enough.is, c.told_name-told.ensures) at c.in_ok-stop.ensures in
    (printed.0, opened Enough printed.1 refl, printed.2)

pub returns : goal.returns
returns g c =
    let printed = rw (c.in-Unread.is, c.told_name-told.ensures) at c.in_ok-stop.ensures in
    (printed.0, opened Unread printed.1 refl, printed.2)
