-- The tags so far are printed.
use Rattle.std.proofs.Common.{◌≡◌, ℕ, List, ◌++◌, length}
use Rattle.packet_fields.specs.Output.{Gains}
use Rattle.dump_captures.specs.Heading.{tags_text}
use Rattle.dump_captures.proofs.heading.show_tags.Given as goal

abbrev pub invariant-loop-left : goal.invariant-loop-left
invariant-loop-left g l =
    (done : List ℕ) × (done ++ tags_text l.left ≡ tags_text l.tags)
    × Gains (g.W.Write.contents l.initial.output) (g.W.Write.contents l.output) done

abbrev pub decreases-loop-left : goal.decreases-loop-left
decreases-loop-left g l = length l.left
