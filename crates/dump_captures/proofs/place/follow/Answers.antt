-- Each turn follows one tunnel more.
use Rattle.std.proofs.Common.{refl}
use Rattle.dump_captures.specs.Place.{last}
use Rattle.dump_captures.proofs.Places.{left-less, so_far-more}
use Rattle.dump_captures.proofs.place.follow.Goals as goal

pub tunnels-smaller : goal.tunnels-smaller
tunnels-smaller c = left-less _ _ (c.in-Some.ensures.follows)

pub tunnels-preserved : goal.tunnels-preserved
tunnels-preserved c = so_far-more _ _ _ c.tunnels.invariant c.in-Some.ensures.follows

pub returns : goal.returns
returns c = c.tunnels.invariant _ (last (c.in_default.ensures.last refl) refl)
