-- Some tunnels are followed.
use Rattle.dump_captures.specs.Place.{step_of}
use Rattle.dump_captures.proofs.Places.{SoFar, left}
use Rattle.dump_captures.proofs.place.follow.Given as goal

abbrev pub invariant-tunnels : goal.invariant-tunnels
invariant-tunnels l = SoFar (step_of l.initial.step) (step_of l.step)

abbrev pub decreases-tunnels : goal.decreases-tunnels
decreases-tunnels l = left (step_of l.step)
