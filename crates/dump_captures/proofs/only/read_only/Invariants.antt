-- The packets that the names so far choose.
use Rattle.std.proofs.Common.{◌≡◌, Ok}
use Rattle.std.specs.Prelude.{map}
use Rattle.dump_captures.specs.Arguments.{with_names}
use Rattle.dump_captures.proofs.only.read_only.Given as goal

abbrev pub invariant-loop-name : goal.invariant-loop-name
invariant-loop-name l =
    (goal.iterator-loop-name).can_next l.name-iterator × (goal.iterator-loop-name).is_finite l.name-iterator
    × (with_names (map (λ name. name.now) l.yielded) ≡ Ok l.only)
