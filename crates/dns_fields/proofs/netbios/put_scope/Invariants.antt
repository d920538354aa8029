-- What is put so far, and the labels that are left.
use Rattle.std.proofs.Common.{◌≡◌, ◌++◌, List, ℕ, length}
use Rattle.std.specs.Fmt.{WritesInCalls}
use Rattle.record_wire.specs.NameText.{behind_dots}
use Rattle.dns_fields.proofs.netbios.put_scope.Given as goal

abbrev pub invariant-loop-label : goal.invariant-loop-label
invariant-loop-label g l =
    (done : List ℕ) × (done ++ behind_dots l.labels ≡ behind_dots l.fn.labels)
    × WritesInCalls g.S.Sink.took l.fn.output done l.output

abbrev pub decreases-loop-label : goal.decreases-loop-label
decreases-loop-label g l = length l.labels
