-- The nearest of the words so far.
use Rattle.std.proofs.Common.{◌≡◌, drop}
use Rattle.std.specs.Prelude.{map}
use Rattle.std.specs.Option.{option_map}
use Rattle.dump_captures.specs.Nearest.{nearest, nearest_below}
use Rattle.dump_captures.proofs.nearest.nearest.Given as goal

abbrev pub invariant-loop-other : goal.invariant-loop-other
invariant-loop-other l =
    nearest l.word (map (λ other. other.now) l.known)
    ≡ nearest_below l.bound (option_map (λ other. other.now) l.found) l.word
    (map (λ other. other.now) (drop l.other-index l.known))
