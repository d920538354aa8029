-- The labels so far, and those that are left.
use Rattle.std.proofs.Common.{◌≡◌, ◌++◌, List, false, length}
use Rattle.std.specs.Prelude.{map}
use Rattle.extension_wire.specs.declared.mpls.LabelEntry.{LabelEntry}
use Rattle.icmp_fields.specs.Extensions.{label_entry}
use Rattle.icmp_fields.specs.private.Entries.{Continues}
use Rattle.icmp_fields.proofs.extensions.objects.show_labels.Given as goal

abbrev pub invariant-loop-entry : goal.invariant-loop-entry
invariant-loop-entry g l =
    (so_far : List LabelEntry) × (so_far ++ l.entries ≡ l.fn.entries)
    × Continues l.form false (g.W.Write.contents l.fn.output) (g.W.Write.contents l.output) (map label_entry so_far)

abbrev pub decreases-loop-entry : goal.decreases-loop-entry
decreases-loop-entry g l = length l.entries
