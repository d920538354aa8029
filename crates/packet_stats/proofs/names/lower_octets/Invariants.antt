-- The first octets are in lower case.
use Rattle.std.proofs.Common.{◌≡◌, map, take}
use Rattle.std.specs.Char.{to_ascii_lowercase}
use Rattle.record_wire.specs.Labels.{wire}
use Rattle.record_wire.specs.Name.{labels_of}
use Rattle.packet_stats.proofs.names.lower_octets.Given as goal

abbrev pub invariant-loop-octet : goal.invariant-loop-octet
invariant-loop-octet l = l.octets.items ≡ map to_ascii_lowercase (take l.octet-index (wire (labels_of l.name)))
