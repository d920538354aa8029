-- The first record of those that are left is the first of all.
use Rattle.std.proofs.Common.{Option}
use Rattle.dns_wire.specs.DnsPacket.{view_octets}
use Rattle.record_wire.specs.Entries.{all_of}
use Rattle.record_wire.specs.Record.{RecordValue}
use Rattle.record_wire.specs.private.Entries.{are_left}
use Rattle.message_brief.specs.Dns.{FirstRecord}
use Rattle.message_brief.proofs.dns.found.first_record.Given as goal

abbrev pub invariant-loop-record : goal.invariant-loop-record
invariant-loop-record l =
    (found : Option RecordValue) → FirstRecord l.entries found → FirstRecord (all_of (view_octets l.packet)) found

abbrev pub decreases-loop-record : goal.decreases-loop-record
decreases-loop-record l = are_left l.entries
