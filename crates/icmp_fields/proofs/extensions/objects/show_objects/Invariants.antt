-- The entries so far, which go on to all by those of the octets that are left.
use Rattle.std.proofs.Common.{◌≡◌, ◌++◌, List, length}
use Rattle.packet_fields.specs.Fields.{Entry}
use Rattle.packet_fields.specs.private.Entries.{PrintsEntries}
use Rattle.icmp_fields.specs.Extensions.{AreObjects}
use Rattle.icmp_fields.specs.private.Entries.{are_none}
use Rattle.icmp_fields.proofs.extensions.objects.show_objects.Given as goal

abbrev pub invariant-loop-rest : goal.invariant-loop-rest
invariant-loop-rest g l =
    (done : List Entry)
    × ((more : List Entry) → AreObjects l.rest more → AreObjects l.octets (done ++ more))
    × (l.is_first ≡ are_none done)
    × PrintsEntries l.form (g.W.Write.contents l.fn.output) (g.W.Write.contents l.output) done

abbrev pub decreases-loop-rest : goal.decreases-loop-rest
decreases-loop-rest g l = length l.rest
