-- What is known of the fragment is printed.
use Rattle.dump_captures.proofs.packets.show_refused.Goals as goal

pub returns : goal.returns
returns g c = rw c.refused_fragment-sight.ensures at c.show_sight.ensures
