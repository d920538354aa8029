use Rattle.std.proofs.Common.{◌≡◌, drop}
use Rattle.examples.specs.Ranked.{best_behind, best_of}
use Rattle.examples.proofs.ranked.best.Given as goal

-- the best of the rest behind that so far is the best of all
abbrev pub invariant-loop-entry : goal.invariant-loop-entry
invariant-loop-entry g l =
    best_behind (g.T.Ranked.rank l.destination) l.best (drop l.entry-index l.entries)
    ≡ best_of (g.T.Ranked.rank l.destination) l.entries
