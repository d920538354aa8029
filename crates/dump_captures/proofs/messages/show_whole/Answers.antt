-- The fields, and the reason under which they are counted.
use Rattle.dump_captures.proofs.messages.show_whole.Goals as goal

pub returns : goal.returns
returns g c =
    let (items, is, printed) = c.in_ok-told.ensures in
    (items, (c.in_ok-told.told, is, c.counted.ensures), printed)
