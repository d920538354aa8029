-- The options still to come tell what all tell.
use Rattle.std.proofs.Common.{◌≡◌, length}
use Rattle.dns_fields.specs.Edns.{unread_option}
use Rattle.dns_fields.proofs.edns.why_cut.Given as goal

abbrev pub invariant-loop-answer : goal.invariant-loop-answer
invariant-loop-answer l = unread_option l.options ≡ unread_option l.initial.options

abbrev pub decreases-loop-answer : goal.decreases-loop-answer
decreases-loop-answer l = length l.options
