use Rattle.std.proofs.Common.{List, length}
use Rattle.control_wire.specs.NdiscPrefixInformationType.{PrefixInformation}
use Rattle.examples.specs.Router.{TellPrefixes}
use Rattle.examples.proofs.router.next_prefix.Given as goal

-- what is left tells all prefixes: none was told so far
abbrev pub invariant-loop-block : goal.invariant-loop-block
invariant-loop-block l =
    (prefixes : List PrefixInformation) → TellPrefixes l.options prefixes → TellPrefixes l.rest prefixes

abbrev pub decreases-loop-block : goal.decreases-loop-block
decreases-loop-block l = length l.rest
