-- None of the first questions has the key.
use Rattle.std.proofs.Common.{map, take}
use Rattle.packet_pairs.specs.Key.{key_of}
use Rattle.packet_pairs.specs.Pairs.{IsUnknown, asked_of}
use Rattle.packet_pairs.proofs.search.find.Given as goal

abbrev pub invariant-loop-place : goal.invariant-loop-place
invariant-loop-place l = IsUnknown (key_of l.key) (map asked_of (take l.place l.questions.items))
