-- All are whole where those that are left are.
use Rattle.std.proofs.Common.{◌≡◌, length}
use Rattle.std.specs.List.{list_all}
use Rattle.message_brief.specs.Neighbors.{is_whole_option, options_in}
use Rattle.message_brief.proofs.neighbors.are_whole.Given as goal

abbrev pub invariant-loop-left : goal.invariant-loop-left
invariant-loop-left l = list_all is_whole_option (options_in l.left) ≡ list_all is_whole_option (options_in l.octets)

abbrev pub decreases-loop-left : goal.decreases-loop-left
decreases-loop-left l = length l.left
