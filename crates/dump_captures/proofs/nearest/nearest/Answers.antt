-- Before the first word none is found.
use Rattle.std.proofs.Common.{refl}
unfoldable use Rattle.dump_captures.specs.Nearest.{nearest}
use Rattle.dump_captures.proofs.nearest.nearest.Goals as goal

pub loop-other-init : goal.loop-other-init
unfolding nearest
loop-other-init c = rw c.most_changes-bound.ensures refl
