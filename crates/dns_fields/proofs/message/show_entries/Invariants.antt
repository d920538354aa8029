-- None was refused, and the entries that are printed so far go on to all by those that are left.
use Rattle.std.proofs.Common.{◌≡◌, false}
use Rattle.dns_wire.specs.DnsPacket.{view_octets}
use Rattle.record_wire.specs.Entries.{all_of}
use Rattle.record_wire.specs.private.Entries.{are_left}
use Rattle.dns_fields.proofs.Entries.{SoFar}
use Rattle.dns_fields.proofs.message.show_entries.Given as goal

abbrev pub invariant-loop-entry : goal.invariant-loop-entry
invariant-loop-entry g l = record {
  unbroken : l.entries.refused ≡ false;
  so_far : SoFar l.form l.kind (view_octets l.packet) l.entries (all_of (view_octets l.packet)) l.is_first l.unread
      (g.W.Write.contents l.fn.output) (g.W.Write.contents l.output);
}

abbrev pub decreases-loop-entry : goal.decreases-loop-entry
decreases-loop-entry g l = are_left l.entries
