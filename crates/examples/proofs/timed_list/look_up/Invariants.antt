use Rattle.std.proofs.Common.{◌≡◌, drop}
use Rattle.std.specs.List.{find}
use Rattle.examples.proofs.timed_list.look_up.Given as goal

-- what is found in the rest is what is found
abbrev pub invariant-loop-entry : goal.invariant-loop-entry
invariant-loop-entry g l =
    find (g.T.Entry.is_of l.key) (drop l.entry-index l.entries) ≡ find (g.T.Entry.is_of l.key) l.entries
