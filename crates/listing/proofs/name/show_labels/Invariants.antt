-- What is printed so far, and what the answers still to come print; each label takes one of these.
use Rattle.listing.proofs.Words.{◌≡◌, ◌++◌, Gains, List, ℕ, answers_listing, length}
use Rattle.listing.proofs.name.show_labels.Given as goal

abbrev pub invariant-loop-label : goal.invariant-loop-label
invariant-loop-label g l =
    (done : List ℕ) × (done ++ answers_listing l.labels.ahead ≡ answers_listing l.initial.labels.ahead)
    × Gains (g.W.Write.contents l.initial.output) (g.W.Write.contents l.output) done

abbrev pub decreases-loop-label : goal.decreases-loop-label
decreases-loop-label g l = length l.labels.ahead
