-- The sum of the first octets.
use Rattle.std.proofs.Common.{◌≡◌, take}
use Rattle.std.specs.List.{fold}
use Rattle.packet_stats.specs.Subject.{place_of, subject_of}
use Rattle.packet_stats.specs.private.Sums.{mix}
use Rattle.packet_stats.proofs.subject.Subject.sum.Given as goal

abbrev pub invariant-loop-octet : goal.invariant-loop-octet
invariant-loop-octet l = l.sum ≡ fold mix 0 (take l.octet-index (place_of (subject_of l.self)))
