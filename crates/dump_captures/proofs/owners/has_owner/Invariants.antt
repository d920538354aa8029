-- None was refused, and what those that are left have all have.
use Rattle.std.proofs.Common.{◌≡◌, Bool, false}
use Rattle.dns_wire.specs.DnsPacket.{view_octets}
use Rattle.record_wire.specs.Entries.{all_of}
use Rattle.record_wire.specs.Name.{labels_of}
use Rattle.record_wire.specs.private.Entries.{are_left}
use Rattle.dump_captures.specs.Owners.{HasOwner}
use Rattle.dump_captures.proofs.owners.has_owner.Given as goal

abbrev pub invariant-loop-entry : goal.invariant-loop-entry
invariant-loop-entry l = record {
  unbroken : l.entries.refused ≡ false;
  goes_on : (has : Bool) → HasOwner l.service (labels_of l.end) (view_octets l.packet) l.entries has
      → HasOwner l.service (labels_of l.end) (view_octets l.packet) (all_of (view_octets l.packet)) has;
}

abbrev pub decreases-loop-entry : goal.decreases-loop-entry
decreases-loop-entry l = are_left l.entries
