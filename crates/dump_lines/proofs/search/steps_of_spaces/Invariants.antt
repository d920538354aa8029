-- The steps so far are spaces alone.
use Rattle.std.proofs.Common.{◌≡◌, ◌*◌, All, take}
use Rattle.dump_lines.proofs.search.steps_of_spaces.Given as goal

abbrev pub invariant-loop-step : goal.invariant-loop-step
invariant-loop-step l = All (λ octet. octet ≡ 32) (take (l.step * 16) l.octets)
