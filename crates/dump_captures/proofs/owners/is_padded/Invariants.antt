-- The bytes so far are the same.
use Rattle.std.proofs.Common.{◌≡◌, length}
use Rattle.dns_fields.specs.Netbios.{decoded}
use Rattle.dump_captures.specs.Owners.{is_padded}
use Rattle.dump_captures.proofs.owners.is_padded.Given as goal

abbrev pub invariant-loop-letters : goal.invariant-loop-letters
invariant-loop-letters l =
    is_padded (decoded l.initial.letters) l.initial.text ≡ is_padded (decoded l.letters) l.text

abbrev pub decreases-loop-letters : goal.decreases-loop-letters
decreases-loop-letters l = length l.letters
