-- The entries so far, and those of the routers that are left.
use Rattle.std.proofs.Common.{◌≡◌, ◌++◌, List}
use Rattle.packet_fields.specs.Fields.{Entry}
use Rattle.packet_fields.specs.private.Entries.{PrintsEntries}
use Rattle.packet_fields.proofs.EntryChains.{is_none}
use Rattle.icmp_fields.specs.Queries.{router_entries}
use Rattle.icmp_fields.proofs.queries.show_each.Given as goal

abbrev pub invariant-loop-left : goal.invariant-loop-left
invariant-loop-left g l =
    (done : List Entry)
    × (done ++ router_entries l.width l.left l.rest ≡ router_entries l.width l.count l.octets)
    × (l.is_first ≡ is_none done)
    × PrintsEntries l.form (g.W.Write.contents l.initial.output) (g.W.Write.contents l.output) done

abbrev pub decreases-loop-left : goal.decreases-loop-left
decreases-loop-left g l = l.left
