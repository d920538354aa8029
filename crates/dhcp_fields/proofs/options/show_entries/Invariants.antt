-- The entries so far, and those of the kinds that are left.
use Rattle.std.proofs.Common.{◌≡◌, ◌++◌, List, length}
use Rattle.std.specs.Prelude.{map}
use Rattle.dhcp_options.specs.Parts.{Answer, ArePartsOf}
use Rattle.packet_fields.specs.private.Entries.{PrintsEntries}
use Rattle.packet_fields.specs.Fields.{Entry}
use Rattle.packet_fields.proofs.EntryChains.{is_none}
use Rattle.dhcp_fields.specs.Options.{kinds_in, option_entries, option_entry}
use Rattle.dhcp_fields.proofs.options.show_entries.Given as goal

abbrev pub invariant-loop-kind : goal.invariant-loop-kind
invariant-loop-kind g l =
    (parts : List Answer) → ArePartsOf l.octets parts
    → (done : List Entry) × (done ++ map (option_entry parts) (kinds_in l.left) ≡ option_entries parts)
    × (l.is_first ≡ is_none done)
    × PrintsEntries l.form (g.W.Write.contents l.initial.output) (g.W.Write.contents l.output) done

abbrev pub decreases-loop-kind : goal.decreases-loop-kind
decreases-loop-kind g l = length l.left
