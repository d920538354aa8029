-- All are whole where those that are left are.
use Rattle.std.proofs.Common.{◌≡◌}
use Rattle.message_brief.specs.Groups.{are_whole}
use Rattle.message_brief.proofs.groups.are_whole.Given as goal

abbrev pub invariant-loop-more : goal.invariant-loop-more
invariant-loop-more l = are_whole l.width l.more l.left ≡ are_whole l.width l.count l.octets

abbrev pub decreases-loop-more : goal.decreases-loop-more
decreases-loop-more l = l.more
