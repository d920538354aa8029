-- The tunnels in it are followed, or there are none.
use Rattle.dump_captures.specs.Fragments.IsWithin.{follows, stays}
use Rattle.std.proofs.Common.{refl}
use Rattle.dump_captures.proofs.fragments.look_within.Goals as goal

pub returns-in-Some : goal.returns-in-Some
returns-in-Some c =
    follows _ _ _ c.in-Some.ensures.followed c.follow.ensures c.look_at_end.ensures c.unless_fragment.ensures

pub returns-in-None : goal.returns-in-None
returns-in-None c = stays (c.in-None.ensures.stays refl) c.whole.ensures
