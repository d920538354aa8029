-- The entries so far, and those of the parts that are left.
use Rattle.std.proofs.Common.{◌≡◌, ◌++◌, List}
use Rattle.std.specs.Prelude.{map}
use Rattle.packet_fields.specs.Fields.{Entry}
use Rattle.packet_fields.specs.private.Entries.{PrintsEntries}
use Rattle.packet_fields.specs.Parts.{parts}
use Rattle.packet_fields.proofs.EntryChains.{is_none}
use Rattle.packet_fields.proofs.parts.show_each.Given as goal

abbrev pub invariant-loop-left : goal.invariant-loop-left
invariant-loop-left g l =
    (done : List Entry)
    × (done ++ map g.P.Part.entry_of (parts g.P.Part.part_len l.left l.rest)
    ≡ map g.P.Part.entry_of (parts g.P.Part.part_len l.count l.octets))
    × (l.is_first ≡ is_none done)
    × PrintsEntries l.form (g.W.Write.contents l.initial.output) (g.W.Write.contents l.output) done

abbrev pub decreases-loop-left : goal.decreases-loop-left
decreases-loop-left g l = l.left
