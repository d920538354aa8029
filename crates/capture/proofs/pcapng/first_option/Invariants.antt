-- The options that are left tell what all tell.
use Rattle.std.proofs.Common.{◌↔◌, List, ℕ, length}
use Rattle.capture.specs.Pcapng.{TellsOption}
use Rattle.capture.proofs.pcapng.first_option.Given as goal

abbrev pub invariant-options : goal.invariant-options
invariant-options l =
    (value : List ℕ) → TellsOption l.order l.code l.len l.rest value ↔ TellsOption l.order l.code l.len l.options value

abbrev pub decreases-options : goal.decreases-options
decreases-options l = length l.rest
